use Rattle.std.proofs.Common.{◌≤◌, ◌-◌, false, length, take}
use Rattle.outside.specs.Reading.{Took, Ended}
use Rattle.lane_command.specs.declared.input.TheConstants.{WHOLE_INPUT}
use Rattle.lane_command.proofs.input.read_input.Given as goal

-- the buffer begins with what was taken
abbrev pub invariant-reads : goal.invariant-reads
invariant-reads g l = record {
  within : l.taken ≤ WHOLE_INPUT;
  held : l.taken ≤ length l.input.items;
  took : Took (g.S.Source.told l.fn.source) (g.S.Source.told l.source) (take l.taken l.input.items);
  answered : Ended (g.S.Source.told l.fn.source) (g.S.Source.told l.source) false;
  later : g.S.Source.faults l.fn.source ≤ g.S.Source.faults l.source;
}

abbrev pub decreases-reads : goal.decreases-reads
decreases-reads g l = WHOLE_INPUT - l.taken
