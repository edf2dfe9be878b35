-- What was read of an input.
use Rattle.std.specs.Prelude.{◌≡◌, ◌<◌, ℕ, List, length, Option, Vec, Result, Ok, Err, true, false}
use Rattle.std.specs.declared.alloc.Global.{Global}
use Rattle.outside.specs.Reading.{Told, Took, Ended}
use Rattle.lane_command.specs.declared.input.TheConstants.{WHOLE_INPUT}
use Rattle.lane_command.specs.declared.input.InputFault.{InputFault}
use Rattle.lane_command.specs.declared.input.InputFault.TheVariants.{ReadFault, NoMemory, TooLong}

-- how many bytes were taken before a fault: all that may be, exactly where the input is too long
abbrev pub TakenBy : InputFault → ℕ → Type 0
TakenBy ReadFault taken = taken < WHOLE_INPUT
TakenBy NoMemory taken = taken < WHOLE_INPUT
TakenBy TooLong taken = taken ≡ WHOLE_INPUT

-- The bytes taken are the input, and 0 was answered behind them; or some were taken, and 0 wasn't answered.
abbrev pub InputRead : Result (Vec ℕ Global) InputFault → Option Told → Option Told → Type 0
InputRead (Ok input) before now = Took before now input.items × Ended before now true × (length input.items < WHOLE_INPUT)
InputRead (Err fault) before now = (bytes : List ℕ) × Took before now bytes × Ended before now false × TakenBy fault (length bytes)
