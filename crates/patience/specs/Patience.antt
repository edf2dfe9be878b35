-- How often a refused call is made again, and what is counted of that.
use Rattle.std.specs.Prelude.{◌≡◌, ℕ, ◌+◌, ◌-◌, ◌^◌, ◌≤◌, min, Bool, IsTrue, Option, Some, None, Result, Ok, Err}
use Rattle.counts.specs.Counts.{RoseBy}
use Rattle.map_model.specs.declared.refusal.Refusal.{Refusal}
use Rattle.map_model.specs.declared.refusal.Refusal.TheVariants.{Again, Full, NoMemory}

-- there is a limit, and there were as many attempts
abbrev pub IsSpent : Option ℕ → ℕ → Type 0
IsSpent None tries = ⊥
IsSpent (Some limit) tries = limit ≤ tries

-- one attempt more, up to the end of its type
abbrev pub next_try : ℕ → ℕ
next_try tries = min (tries + 1) (2 ^ 32 - 1)

-- how many refusals stand behind the line of a refusal: as many as the limit, where another lane was in the way, and one for want of room
abbrev pub owed_by : Option ℕ → Option Refusal → ℕ
owed_by limit None = 0
owed_by limit (Some NoMemory) = 0
owed_by limit (Some (Full cause)) = 1
owed_by None (Some (Again cause)) = 0
owed_by (Some limit) (Some (Again cause)) = limit

-- another lane in the way is told only where patience has a limit, and never while alone
abbrev pub MayTell : Option ℕ → Bool → Refusal → Type 0
MayTell limit sole NoMemory = Unit {0}
MayTell limit sole (Full cause) = Unit {0}
MayTell None sole (Again cause) = ⊥
MayTell (Some limit) sole (Again cause) = IsTrue sole → ⊥

-- a refusal that is counted is the last one
abbrev pub IsLast : Option Refusal → Option Refusal → Type 0
IsLast None last = Unit {0}
IsLast (Some NoMemory) last = Unit {0}
IsLast (Some (Full cause)) last = last ≡ Some (Full cause)
IsLast (Some (Again cause)) last = last ≡ Some (Again cause)

-- the refusal may be told, it was counted as often as its line owes, and it is the last one
pub record IsCounted (limit : Option ℕ) (sole : Bool) (before now : ℕ) (last : Option Refusal) (refusal : Refusal) : Type 0 where
  pub may : MayTell limit sole refusal
  pub rose : RoseBy (owed_by limit (Some refusal)) before now
  pub is_last : IsLast (Some refusal) last

-- the count didn't fall, and an answer that was refused is counted
abbrev pub Tells : {T : Type 0} → Option ℕ → Bool → ℕ → ℕ → Option Refusal → Result T Refusal → Type 0
Tells limit sole before now last (Ok x) = before ≤ now
Tells limit sole before now last (Err refusal) = (before ≤ now) × IsCounted limit sole before now last refusal
