use Rattle.std.proofs.Common.{ℕ, List, ◌++◌, take}
use Rattle.fill_runs.specs.Tallies.{IsTallied}
use Rattle.fill_runs.proofs.words.LineCounts.take_all.Given as goal

abbrev pub invariant-loop-byte : goal.invariant-loop-byte
invariant-loop-byte l = (text : List ℕ) → IsTallied l.fn.self.counts l.fn.self.start.items text → IsTallied l.self.counts l.self.start.items (text ++ take l.byte-index l.piece)
