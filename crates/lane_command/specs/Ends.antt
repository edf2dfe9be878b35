-- How lanes ended.
use Rattle.std.specs.Prelude.{◌≡◌, ◌≢◌, ℕ, List, ◌++◌, map, All}
use Rattle.session.specs.declared.session.SessionEnd.TheVariants.{NoMemory}
use Rattle.lane_runner.specs.declared.slot.LaneEnd.{LaneEnd}
use Rattle.lane_command.specs.Said.{blocks}

-- no lane ended for want of memory
abbrev pub AreWhole : List LaneEnd → Type 0
AreWhole ends = All (λ (end : LaneEnd). end.ending ≢ NoMemory) ends

abbrev pub outputs_of : List LaneEnd → List (List ℕ)
outputs_of ends = map (λ (end : LaneEnd). end.output) ends

-- no lane ended for want of memory, and the text says these lines and then each output
abbrev pub SaysWhole : List ℕ → List LaneEnd → List ℕ → Type 0
SaysWhole faults ends text = AreWhole ends × (text ≡ faults ++ blocks 0 (outputs_of ends))
