-- How the histories that a store stands for go on over its calls.
use Rattle.std.specs.Prelude.{◌≡◌, ℕ, List, [], ◌∷◌, ◌++◌, Bool, true, false, IsTrue}
use mathlib.Core.List.{IsPrefix}
use Rattle.map_model.specs.Calls.{Call, Reply, Value, Absent, New, Set, Gone}
use Rattle.map_model.specs.History.{Entry, IsLegal, own, entry_of}

-- for each history that was stood for there is one that is stood for now, and R holds of these two
abbrev pub Follows : (List Entry → Type 0) → (List Entry → Type 0) → (List Entry → List Entry → Type 0) → Type 0
Follows before now R = (old : List Entry) → before old → (new : List Entry) × now new × R old new

-- the history went on, and of this lane these entries are new; where the lane is alone, nothing else is
pub record Grows (lane : ℕ) (sole : Bool) (entries old new : List Entry) : Type 0 where
  pub begins : IsPrefix old new
  pub legal : IsLegal new
  pub mine : own lane new ≡ own lane old ++ entries
  pub alone : IsTrue sole → new ≡ old ++ entries

-- the call has its entry, and others may stand behind it
abbrev pub Enters : ℕ → Bool → Call → Reply → List Entry → List Entry → Type 0
Enters lane sole call reply old new = Grows lane sole (entry_of lane old call reply ∷ []) old new

-- the call has its entry, and none stands behind it
pub record EntersLast (lane : ℕ) (sole : Bool) (call : Call) (reply : Reply) (old new : List Entry) : Type 0 where
  pub enters : Enters lane sole call reply old new
  pub last : (front : List Entry) × (new ≡ front ++ entry_of lane old call reply ∷ [])

-- the lane has no new entry
abbrev pub Stays : ℕ → Bool → List Entry → List Entry → Type 0
Stays lane sole old new = Grows lane sole [] old new

-- the reply that an answer stands for: of a get, with the bytes left for it
abbrev pub got : Bool → List ℕ → Reply
got true value = Value value
got false value = Absent

-- of a put
abbrev pub was_put : Bool → Reply
was_put true = New
was_put false = Set

-- of a del
abbrev pub was_gone : Bool → Reply
was_gone true = Gone
was_gone false = Absent
