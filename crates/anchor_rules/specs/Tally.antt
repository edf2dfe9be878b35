-- A count over the numbers of keys of leaves, which bounds how many leaves and how many changes of anchors there are.
use Rattle.std.specs.Prelude.{ℕ, ◌+◌, ◌-◌, ◌*◌, ◌≤◌, List, [], ◌∷◌, length, map}
use Rattle.anchor_rules.specs.Anchors.{Anchors}

-- by how much the sizes exceed h, in all
abbrev pub excess : ℕ → List ℕ → ℕ
excess h [] = 0
excess h (c ∷ sizes) = c - h + excess h sizes

-- sizes of leaves, half of the size that is split, the number of new keys so far, and of changes of anchors
pub record Tally (sizes : List ℕ) (h p v : ℕ) : Type 0 where
  pub grown : excess h sizes + h * (length sizes - 1) ≤ p
  pub changed : 2 * excess h sizes + h * (v + length sizes - 1) ≤ 2 * p

-- the leaves' sizes, in the order of their anchors
abbrev pub sizes_of : (ℕ → ℕ) → Anchors → List ℕ
sizes_of size A = map (λ (x : List ℕ × ℕ). size x.1) A
