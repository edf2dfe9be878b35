-- When an object of the outside failed.
use Rattle.std.specs.Prelude.{ℕ, ◌≤◌, Result, Ok, Err}
use Rattle.counts.specs.Counts.{Rose}
use Rattle.outside.specs.declared.stop.Stop.{Stop}
use Rattle.outside.specs.declared.stop.Stop.TheVariants.{Failed, NoMemory}

-- the count of faults didn't fall, and it rose where the object failed
abbrev pub StopCounted : ℕ → ℕ → Stop → Type 0
StopCounted before now Failed = (before ≤ now) × Rose before now
StopCounted before now NoMemory = before ≤ now

-- the count of faults didn't fall, and `Failed` is answered only where it rose
abbrev pub FaultsCounted : {T : Type 0} → ℕ → ℕ → Result T Stop → Type 0
FaultsCounted before now (Ok x) = before ≤ now
FaultsCounted before now (Err stop) = StopCounted before now stop
