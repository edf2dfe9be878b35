-- Connections that a door gave and took back.
use Rattle.std.specs.Prelude.{◌≡◌, ◌+◌, ℕ, List, [], ◌∷◌, ◌++◌, Bool, false, Option, Some, None, Result, Ok, Err}
use Rattle.outside.specs.Reading.{Told}
use Rattle.outside.specs.declared.stop.Stop.{Stop}

-- the bytes taken from a connection, whether it answered 0, and the bytes written to it
pub record Connection : Type 0 where
  pub taken : List ℕ
  pub ended : Bool
  pub written : List ℕ

-- Where the input tells, nothing was taken from it, and it didn't answer 0.
abbrev pub IsUnread : Option Told → Type 0
IsUnread None = Unit {0}
IsUnread (Some t) = (t.given ≡ []) × (t.ended ≡ false)

-- Where the output tells, nothing was written to it.
abbrev pub IsUnwritten : Option (List ℕ) → Type 0
IsUnwritten None = Unit {0}
IsUnwritten (Some written) = written ≡ []

-- A door gave one more connection at `Ok`, and none at a stop.
abbrev pub Opens : {T : Type 0} → ℕ → ℕ → Result T Stop → Type 0
Opens before now (Ok ends) = now ≡ before + 1
Opens before now (Err stop) = now ≡ before

-- Where a connection that has ended tells, both of its ends told, and it tells what they did.
abbrev pub Ends : Option Told → Option (List ℕ) → Option Connection → Type 0
Ends told written None = Unit {0}
Ends None written (Some connection) = ⊥
Ends (Some t) None (Some connection) = ⊥
Ends (Some t) (Some w) (Some connection) = connection ≡ record { taken = t.given; ended = t.ended; written = w }

-- Where a door tells its closed connections after a close, it told them before, the one that it took back tells, and it stands behind those before.
abbrev pub Closes : Option (List Connection) → Option (List Connection) → Option Connection → Type 0
Closes before None past = Unit {0}
Closes None (Some now) past = ⊥
Closes (Some before) (Some now) None = ⊥
Closes (Some before) (Some now) (Some connection) = now ≡ before ++ connection ∷ []
