use Rattle.std.proofs.Common.{◌≡◌, [], take}
use Rattle.line_reader.specs.Cut.{open_part}
use Rattle.line_reader.specs.Told.{Holds, told_lines}
use Rattle.line_reader.specs.Kept.{kept_lines, joined}
use Rattle.line_reader.proofs.pieces.read_all.Given as goal

abbrev pub invariant-loop-piece : goal.invariant-loop-piece
invariant-loop-piece l = record {
  told : kept_lines l.out.items ≡ told_lines [] (joined (take l.piece-index l.pieces));
  held : Holds l.lines (open_part [] (joined (take l.piece-index l.pieces)));
}
