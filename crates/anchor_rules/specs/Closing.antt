-- Anchors closed by a token that is below all bytes, so that none is a prefix of another.
use Rattle.std.specs.Prelude.{◌≡◌, ℕ, ◌+◌, List, [], ◌∷◌, Bool, true, false, ◌==◌, ◌&&◌, if◌then◌else◌, map}
use Rattle.std.specs.List.{AllByRecursion, list_any}
use Rattle.key_bytes.specs.Order.{is_below}
use Rattle.anchor_rules.specs.Anchors.{Anchors}

-- the first is a proper prefix of the second
abbrev pub is_start : List ℕ → List ℕ → Bool
is_start [] [] = false
is_start [] (y ∷ b) = true
is_start (x ∷ a) [] = false
is_start (x ∷ a) (y ∷ b) = (x == y) && is_start a b

-- the anchor is a proper prefix of one in the list
abbrev pub is_closed : Anchors → List ℕ → Bool
is_closed A anchor = list_any (λ (x : List ℕ × ℕ). is_start anchor x.0) A

-- the bytes as tokens from 1 on, and token 0 at the end where it is to be closed
abbrev pub closed : Bool → List ℕ → List ℕ
closed flag [] = if flag then 0 ∷ [] else []
closed flag (x ∷ a) = (x + 1) ∷ closed flag a

-- all anchors as tokens, those closed that are a proper prefix of another
abbrev pub closed_anchors : Anchors → List (List ℕ)
closed_anchors A = map (λ (x : List ℕ × ℕ). closed (is_closed A x.0) x.0) A

-- the first string is below the second, and neither is a proper prefix of the other
pub record IsApart (a b : List ℕ) : Type 0 where
  pub below : is_below a b ≡ true
  pub first : is_start a b ≡ false
  pub second : is_start b a ≡ false

-- the strings ascend, and none is a prefix of another
abbrev pub IsPrefixFree : List (List ℕ) → Type 0
IsPrefixFree [] = Unit {0}
IsPrefixFree (a ∷ strings) = AllByRecursion (IsApart a) strings × IsPrefixFree strings
