use Rattle.std.proofs.Common.{◌≡◌, ◌≤◌, ◌-◌, ℕ, List, ◌++◌, length, drop}
use Rattle.outside.specs.Writing.{Wrote}
use Rattle.lane_command.specs.Ends.{outputs_of}
use Rattle.lane_command.specs.Said.{blocks}
use Rattle.lane_command.proofs.texts.write_outputs.Given as goal

-- a front of the whole text was written, and what is left of it is the outputs of the lanes that are left
abbrev pub invariant-lanes : goal.invariant-lanes
invariant-lanes g l = record {
  within : l.lane ≤ length l.ends;
  wrote : (front : List ℕ) × Wrote (g.K.Sink.written l.fn.sink) (g.K.Sink.written l.sink) front × (l.faults ++ blocks 0 (outputs_of l.ends) ≡ front ++ blocks l.lane (outputs_of (drop l.lane l.ends)));
  later : g.K.Sink.faults l.fn.sink ≤ g.K.Sink.faults l.sink;
}

abbrev pub decreases-lanes : goal.decreases-lanes
decreases-lanes g l = length l.ends - l.lane
