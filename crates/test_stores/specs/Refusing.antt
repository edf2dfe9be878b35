-- What it means that the next refusal of a list is answered.
use Rattle.std.specs.Prelude.{◌≡◌, ℕ, ◌+◌, List, Option, Some, None, slice_get}
use Rattle.map_model.specs.Refusals.{HasCause}
use Rattle.map_model.specs.declared.refusal.Refusal.{Refusal}
use Rattle.map_model.specs.declared.refusal.Refusal.TheVariants.{Again, Full, NoMemory}
use Rattle.test_stores.specs.declared.refusing.Refusing.{Refusing}

-- the refusal is the one at this place of the list
abbrev pub IsNext : List Refusal → ℕ → Refusal → Type 0
IsNext refusals at refusal = slice_get refusals at ≡ Some refusal

-- it may be answered to any call, as want of room is answered to puts alone
abbrev pub IsForAny : Refusal → Type 0
IsForAny (Again cause) = Unit {0}
IsForAny (Full cause) = ⊥
IsForAny NoMemory = Unit {0}

-- it is counted, as want of memory isn't
abbrev pub counted : Refusal → Option Refusal
counted (Again cause) = Some (Again cause)
counted (Full cause) = Some (Full cause)
counted NoMemory = None

-- a refusal is taken from the list and counted, and leaves the map; where there is none, nothing changes
abbrev pub Refuses : Refusing → Refusing → Option Refusal → Type 0
Refuses old new None = new ≡ old
Refuses old new (Some refusal) = (new.map ≡ old.map) × (new.refusals ≡ old.refusals) × (new.at ≡ old.at + 1)
    × HasCause (λ (s : Refusing). s.count) (λ s. s.last) (λ s t r. IsNext s.refusals.items s.at r) old new (counted refusal)
