-- How anchors change while the map stays.
use Rattle.std.specs.Prelude.{ℕ, ◌≡◌, ◌≢◌, ◌+◌, ◌-◌, true, ◌⊎◌}
use Rattle.anchor_rules.specs.Anchors.{splits, with_split, adjacent, with_merge}
use Rattle.map_model.specs.Halves.{stay_count, parting}
use Rattle.map_model.specs.declared.refusal.TableFull.{TableFull}
use Rattle.meta_trie.specs.Stands.{IsFreeLeaf, AreLeavesFull, AreItemsFull}
use Rattle.leaf_table.specs.Table.{Table, pairs_at, size_at}

-- The leaf's upper half went to the least leaf that wasn't live, behind the anchor that parts the halves.
pub record IsSplit (old new : Table) (leaf : ℕ) : Type 0 where
  pub right : ℕ
  pub free : IsFreeLeaf old.shape old.anchors right
  pub splits : splits old.anchors leaf (parting (pairs_at old leaf)) right ≡ true
  pub shape : new.shape ≡ old.shape
  pub anchors : new.anchors ≡ with_split old.anchors leaf (parting (pairs_at old leaf)) right
  pub map : new.map ≡ old.map
  pub left_size : size_at new leaf ≡ stay_count (size_at old leaf)
  pub right_size : size_at new right ≡ size_at old leaf - stay_count (size_at old leaf)
  pub others : (other : ℕ) → other ≢ leaf → other ≢ right → size_at new other ≡ size_at old other

-- The table has no room for a split of the leaf: all leaves are live, or the parting anchor needs more items than are free.
abbrev pub HasNoRoom : Table → ℕ → TableFull → Type 0
HasNoRoom t leaf why = AreLeavesFull t.shape t.anchors why ⊎ ((right : ℕ) × IsFreeLeaf t.shape t.anchors right × AreItemsFull t.shape t.anchors leaf (parting (pairs_at t leaf)) why)

-- The right one of two neighbouring leaves gave all its keys to the left one, and isn't live any more.
pub record IsMerged (old new : Table) (left right : ℕ) : Type 0 where
  pub adjacent : adjacent old.anchors left right ≡ true
  pub shape : new.shape ≡ old.shape
  pub anchors : new.anchors ≡ with_merge old.anchors right
  pub map : new.map ≡ old.map
  pub size : size_at new left ≡ size_at old left + size_at old right
  pub others : (other : ℕ) → other ≢ left → other ≢ right → size_at new other ≡ size_at old other
