use Rattle.std.proofs.Common.{◌≡◌, ◌++◌, take, drop}
use Rattle.fill_runs.specs.Summary.{first_word}
use Rattle.fill_runs.proofs.words.first_word.Given as goal

abbrev pub invariant-loop-at : goal.invariant-loop-at
invariant-loop-at l = first_word l.line ≡ take l.at l.line ++ first_word (drop l.at l.line)
