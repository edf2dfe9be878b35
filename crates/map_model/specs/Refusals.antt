-- What an answer says of a store's count of refusals.
use Rattle.std.specs.Prelude.{◌≡◌, ℕ, ◌+◌, ◌≤◌, Option, Some, None, Result, Ok, Err}
use Rattle.counts.specs.Counts.{Rose}
use Rattle.map_model.specs.declared.refusal.Refusal.{Refusal}
use Rattle.map_model.specs.declared.refusal.Refusal.TheVariants.{Again, Full, NoMemory}

-- the refusal that is counted: another lane in the way, or no room
abbrev pub refusal_of : {T : Type 0} → Result T Refusal → Option Refusal
refusal_of (Ok x) = None
refusal_of (Err NoMemory) = None
refusal_of (Err (Again cause)) = Some (Again cause)
refusal_of (Err (Full cause)) = Some (Full cause)

-- a counted refusal raises the count by at most one, is kept as the last, and has its cause; nothing else changes the two
abbrev pub HasCause : {S : Type 0} → (S → ℕ) → (S → Option Refusal) → (S → S → Refusal → Type 0) → S → S → Option Refusal → Type 0
HasCause count last caused old new None = (count new ≡ count old) × (last new ≡ last old)
HasCause count last caused old new (Some r) = (count old ≤ count new) × (count new ≤ count old + 1) × Rose (count old) (count new) × (last new ≡ Some r) × caused old new r

-- no other lane is told to be in the way
abbrev pub NotAgain : {T : Type 0} → Result T Refusal → Type 0
NotAgain (Ok x) = Unit {0}
NotAgain (Err NoMemory) = Unit {0}
NotAgain (Err (Again cause)) = ⊥
NotAgain (Err (Full cause)) = Unit {0}

-- no want of room is told
abbrev pub NotFull : {T : Type 0} → Result T Refusal → Type 0
NotFull (Ok x) = Unit {0}
NotFull (Err NoMemory) = Unit {0}
NotFull (Err (Again cause)) = Unit {0}
NotFull (Err (Full cause)) = ⊥
