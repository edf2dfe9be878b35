use Rattle.std.proofs.Common.{◌≡◌, ◌≤◌, ◌-◌, ◌++◌, ℕ, List, length, take}
use Rattle.line_reader.specs.Cut.{open_part}
use Rattle.line_reader.specs.Told.{Holds, told_lines}
use Rattle.line_reader.specs.Kept.{kept_lines}
use Rattle.line_reader.proofs.pieces.read_piece.Given as goal

abbrev pub invariant-loop-at : goal.invariant-loop-at
invariant-loop-at l = record {
  within : l.at ≤ length l.piece;
  told : (part : List ℕ) → Holds l.fn.lines part → kept_lines l.out.items ≡ kept_lines l.fn.out.items ++ told_lines part (take l.at l.piece);
  held : (part : List ℕ) → Holds l.fn.lines part → Holds l.lines (open_part part (take l.at l.piece));
}

abbrev pub decreases-loop-at : goal.decreases-loop-at
decreases-loop-at l = length l.piece - l.at
