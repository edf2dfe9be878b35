use Rattle.std.proofs.Common.{◌≤◌, ◌-◌, [], length, take}
use Rattle.line_reader.specs.Cut.{open_part}
use Rattle.line_reader.specs.Told.{Holds, told_lines}
use Rattle.lane_lines.specs.Deal.{IsDealt}
use Rattle.lane_lines.proofs.deal.deal_lines.Given as goal

-- the lines that ended so far are dealt, and the reader has the start of the next one
abbrev pub invariant-lines : goal.invariant-lines
invariant-lines l = record {
  within : l.at ≤ length l.input;
  dealt : IsDealt l.lanes (told_lines [] (take l.at l.input)) l.dealt;
  held : Holds l.reader (open_part [] (take l.at l.input));
}

abbrev pub decreases-lines : goal.decreases-lines
decreases-lines l = length l.input - l.at
