-- Why a call of a lane is refused.
use Rattle.std.specs.Prelude.{◌≡◌, ◌+◌, ◌-◌, ◌^◌, ◌≤◌, ℕ, List, Option, Some, min}
use Rattle.row_words.specs.declared.shape.Shape.{Shape}
use Rattle.history_sizes.specs.Fits as sizes
use Rattle.map_model.specs.Calls.{Call, Get, Put, Del, Part}
use Rattle.map_model.specs.History.{Entry}
use Rattle.map_model.specs.declared.refusal.Again.{Again as Hindrance}
use Rattle.map_model.specs.declared.refusal.Full.{Full as Fullness}
use Rattle.map_model.specs.declared.refusal.Refusal.{Refusal}
use Rattle.map_model.specs.declared.refusal.Refusal.TheVariants.{Again, Full, NoMemory}
use Rattle.board_rule.specs.declared.view.View.{View}
use Rattle.board_rule.specs.Views.{GIVEN, looked}
use Rattle.worm_index.specs.declared.faults.PutFault.TheVariants as puts
use Rattle.worm_index.specs.Causes.{IsHindered}
use Rattle.worm_index.specs.Parts.{start_key}
use Rattle.worm_index.specs.Puts.{IsPutFault}

-- an index of this shape has room for what the history puts
abbrev pub Fits : Shape → List Entry → Type 0
Fits k h = sizes.Fits k.values k.leaves k.items k.soft h

-- Another lane was in the way of a call, by what its looks found: of a get, a del or a part at the leaf of its key, and of a put there or where
-- it tended a crowded leaf. So only a put is told of the turn, of a pinned table, of the bin or of a leaf that was filled.
abbrev pub IsBarred : Shape → ℕ → Call → View → View → Hindrance → Type 0
IsBarred k lane (Get key) v w again = IsHindered k key lane v w again
IsBarred k lane (Put key value) v w again = IsPutFault k key value lane v w (puts.Again again)
IsBarred k lane (Del key) v w again = IsHindered k key lane v w again
IsBarred k lane (Part from upto) v w again = IsHindered k (start_key from) lane v w again

-- there was no room for a call, which was a put
abbrev pub HasNoRoom : Shape → ℕ → Call → View → View → Fullness → Type 0
HasNoRoom k lane (Get key) v w full = ⊥
HasNoRoom k lane (Put key value) v w full = IsPutFault k key value lane v w (puts.Full full)
HasNoRoom k lane (Del key) v w full = ⊥
HasNoRoom k lane (Part from upto) v w full = ⊥

-- Why a call was refused, by what its own looks found. Its last look is at the lanes given, behind all that.
abbrev pub IsRefused : Shape → ℕ → Call → View → View → Refusal → Type 0
IsRefused k lane call v w (Again again) = (u : View) × (given : ℕ) × (w ≡ looked GIVEN given u) × IsBarred k lane call v u again
IsRefused k lane call v w (Full full) = (u : View) × (given : ℕ) × (w ≡ looked GIVEN given u) × HasNoRoom k lane call v u full
IsRefused k lane call v w NoMemory = Unit {0}

-- a look found so many lanes given, and nothing else was done
abbrev pub SawGiven : View → View → ℕ → Type 0
SawGiven v w given = w ≡ looked GIVEN given v

-- a counted refusal raises the count, as far as it can tell, and is the last one; want of memory isn't counted
abbrev pub IsNoted : ℕ → Option Refusal → ℕ → Option Refusal → Refusal → Type 0
IsNoted count last now then NoMemory = (now ≡ count) × (then ≡ last)
IsNoted count last now then (Again cause) = (count ≤ now) × (now ≡ min (count + 1) (2 ^ 64 - 1)) × (then ≡ Some (Again cause))
IsNoted count last now then (Full cause) = (count ≤ now) × (now ≡ min (count + 1) (2 ^ 64 - 1)) × (then ≡ Some (Full cause))
