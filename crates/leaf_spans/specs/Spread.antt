-- The pairs of a map, spread over the leaves of anchors.
use Rattle.std.specs.Prelude.{◌≡◌, ℕ, [], ◌∷◌, ◌++◌, length, Option, Some, None}
use Rattle.anchor_rules.specs.Anchors.{Anchors, Span, in_span, span}
use Rattle.map_model.specs.Maps.{Pairs, IsMap, keep}

-- the pairs whose keys are in a span, and none without a span
abbrev pub inside : {V : Type 0} → Option Span → Pairs V → Pairs V
inside None pairs = []
inside (Some s) pairs = keep (in_span s) pairs

-- how many keys of the map a leaf has
abbrev pub size_in : {V : Type 0} → Anchors → Pairs V → ℕ → ℕ
size_in A m leaf = length (inside (span A leaf) m)

-- each leaf has just the map's pairs in its span, and so none where it isn't among the anchors
pub record Spread {V : Type 0} (A : Anchors) (m : Pairs V) (maps : ℕ → Pairs V) : Type 0 where
  pub ascends : IsMap m
  pub parts : (leaf : ℕ) → maps leaf ≡ inside (span A leaf) m

-- the leaves' pairs one behind another, in the order of their anchors
abbrev pub joined : {V : Type 0} → Anchors → (ℕ → Pairs V) → Pairs V
joined [] maps = []
joined (x ∷ xs) maps = maps x.1 ++ joined xs maps
