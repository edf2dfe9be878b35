use Rattle.std.proofs.Common.{◌≡◌, ℕ, List, map, length, string_bytes}
use Rattle.command_line.specs.Marks.{marks}
use Rattle.command_line.specs.Commands.{command_of}
use Rattle.command_line.specs.Reading.{list_of, number_at}
use Rattle.command_line.proofs.Outcomes.{outcome}
use Rattle.command_line.proofs.choices.read_choices.Given as goal

abbrev pub invariant-loop-rest : goal.invariant-loop-rest
invariant-loop-rest l = (word : List ℕ) → outcome (number_at l.choices) (list_of l.choices.words) (marks (map string_bytes l.rest)) word ≡ command_of word (marks (map string_bytes l.words))

abbrev pub decreases-loop-rest : goal.decreases-loop-rest
decreases-loop-rest l = length l.rest
