-- When a leaf is split, when it is merged and with which neighbour, and when it is let be.
use Rattle.std.specs.Prelude.{◌≡◌, ℕ, ◌+◌, ◌<◌, ◌≤◌, ◌⊎◌, true, Option, Some, None}
use Rattle.anchor_rules.specs.Anchors.{Anchors, adjacent}
use Rattle.leaf_spans.specs.declared.decisions.Side.{Side}
use Rattle.leaf_spans.specs.declared.decisions.Side.TheVariants.{Left, Right}
use Rattle.leaf_spans.specs.declared.decisions.Wanted.{Wanted}
use Rattle.leaf_spans.specs.declared.decisions.Wanted.TheVariants.{Split, Merge, Nothing}

-- the leaf has more keys than it should have
abbrev pub IsLarge : (ℕ → ℕ) → ℕ → ℕ → Type 0
IsLarge size soft leaf = soft < size leaf

-- the two are neighbours, and have few enough keys together to be one leaf
pub record CanMerge (A : Anchors) (size : ℕ → ℕ) (merge_sum left right : ℕ) : Type 0 where
  pub beside : adjacent A left right ≡ true
  pub small : size left + size right ≤ merge_sum

-- the two leaves that are merged for a leaf's sake: it and its right neighbour, or else its left neighbour and it
abbrev pub AreMergeable : Anchors → (ℕ → ℕ) → ℕ → ℕ → ℕ → ℕ → Type 0
AreMergeable A size merge_sum leaf left right = ((left ≡ leaf) × CanMerge A size merge_sum left right) ⊎ ((right ≡ leaf) × ((other : ℕ) → CanMerge A size merge_sum leaf other → ⊥) × CanMerge A size merge_sum left right)

-- the leaf is let be: it hasn't too many keys, and is merged with no neighbour
pub record IsLetBe (A : Anchors) (size : ℕ → ℕ) (soft merge_sum leaf : ℕ) : Type 0 where
  pub not_large : size leaf ≤ soft
  pub alone : (left right : ℕ) → AreMergeable A size merge_sum leaf left right → ⊥

-- what its own count of keys says: a split, or that a merge is to be looked for, or neither
abbrev pub IsWish : ℕ → ℕ → ℕ → Wanted → Type 0
IsWish count soft merge_sum Split = soft < count
IsWish count soft merge_sum Merge = (count ≤ soft) × (count ≤ merge_sum)
IsWish count soft merge_sum Nothing = (count ≤ soft) × (merge_sum < count)

-- there is a neighbour, and it has few enough keys
abbrev pub WillDo : ℕ → ℕ → Option ℕ → Type 0
WillDo count merge_sum None = ⊥
WillDo count merge_sum (Some other) = count + other ≤ merge_sum

-- which neighbour is joined, by its count of keys where it is there: the right one if it will do, else the left one if it will
abbrev pub IsPartner : ℕ → ℕ → Option ℕ → Option ℕ → Option Side → Type 0
IsPartner count merge_sum left right (Some Right) = WillDo count merge_sum right
IsPartner count merge_sum left right (Some Left) = (WillDo count merge_sum right → ⊥) × WillDo count merge_sum left
IsPartner count merge_sum left right None = (WillDo count merge_sum right → ⊥) × (WillDo count merge_sum left → ⊥)
