-- What a read does to a source that tells its bytes.
use Rattle.std.specs.Prelude.{◌≡◌, Option, Some, None, List, ℕ, [], ◌++◌, Bool, ◌||◌, IsTrue}

-- the bytes given so far, the bytes left, and whether 0 was answered
pub record Told : Type 0 where
  pub given : List ℕ
  pub left : List ℕ
  pub ended : Bool

-- Where the source tells, it gave these bytes: they stand behind those given before, and are the first of those that were left.
abbrev pub Took : Option Told → Option Told → List ℕ → Type 0
Took None new bytes = new ≡ None
Took (Some old) None bytes = ⊥
Took (Some old) (Some new) bytes = (new.given ≡ old.given ++ bytes) × (old.left ≡ bytes ++ new.left)

-- Where the source tells, only an answer of 0 changes whether 0 was answered, and it comes only where no byte is left.
abbrev pub Ended : Option Told → Option Told → Bool → Type 0
Ended None new zero = new ≡ None
Ended (Some old) None zero = ⊥
Ended (Some old) (Some new) zero = (new.ended ≡ (old.ended || zero)) × (IsTrue zero → new.left ≡ [])
