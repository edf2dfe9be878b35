-- Where a key is among the pairs of a map, or would go.
use Rattle.std.specs.Prelude.{◌≡◌, ℕ, ◌+◌, ◌<◌, ◌≤◌, List, ◌∷◌, ◌++◌, length, take, drop, true, false}
use Rattle.std.specs.List.{AllByRecursion}
use Rattle.key_bytes.specs.Order.{is_below}
use Rattle.key_bytes.specs.Bound.{is_under}
use Rattle.key_bytes.specs.declared.bound.Bound.{Bound}
use Rattle.map_model.specs.Maps.{Pairs}

-- a key and its value
abbrev pub Pair : Type 0
Pair = List ℕ × List ℕ

-- all pairs are below the key, or above it
abbrev pub AllBelow : List ℕ → Pairs (List ℕ) → Type 0
AllBelow key pairs = AllByRecursion (λ (p : Pair). is_below p.0 key ≡ true) pairs

abbrev pub AllAbove : List ℕ → Pairs (List ℕ) → Type 0
AllAbove key pairs = AllByRecursion (λ (p : Pair). is_below key p.0 ≡ true) pairs

-- the pair at place i has the key, those before it are below, and those after it above
pub record IsAt (pairs : Pairs (List ℕ)) (key : List ℕ) (i : ℕ) : Type 0 where
  pub in_range : i < length pairs
  pub value : List ℕ
  pub whole : pairs ≡ take i pairs ++ (key, value) ∷ drop (i + 1) pairs
  pub lower : AllBelow key (take i pairs)
  pub upper : AllAbove key (drop (i + 1) pairs)

-- the pairs before place i are below the key, and the others above
pub record IsGapFor (pairs : Pairs (List ℕ)) (key : List ℕ) (i : ℕ) : Type 0 where
  pub in_range : i ≤ length pairs
  pub lower : AllBelow key (take i pairs)
  pub upper : AllAbove key (drop i pairs)

-- the pairs before place i are under the end, and the others aren't
pub record IsCut (pairs : Pairs (List ℕ)) (end : Bound) (i : ℕ) : Type 0 where
  pub in_range : i ≤ length pairs
  pub lower : AllByRecursion (λ (p : Pair). is_under end p.0 ≡ true) (take i pairs)
  pub upper : AllByRecursion (λ (p : Pair). is_under end p.0 ≡ false) (drop i pairs)
