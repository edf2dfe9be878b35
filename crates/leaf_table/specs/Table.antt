-- What leaves behind the rows of one table hold.
use Rattle.std.specs.Prelude.{ℕ, List}
use Rattle.anchor_rules.specs.Anchors.{Anchors, span}
use Rattle.leaf_spans.specs.Spread.{inside, size_in}
use Rattle.map_model.specs.Maps.{Pairs}
use Rattle.row_words.specs.declared.shape.Shape.{Shape}

-- the shape, the anchors with their leaves, and the map of all pairs
pub record Table : Type 0 where
  pub shape : Shape
  pub anchors : Anchors
  pub map : Pairs (List ℕ)

-- the pairs of a leaf: those of the map in its span
abbrev pub pairs_at : Table → ℕ → Pairs (List ℕ)
pairs_at t leaf = inside (span t.anchors leaf) t.map

-- how many keys a leaf has
abbrev pub size_at : Table → ℕ → ℕ
size_at t leaf = size_in t.anchors t.map leaf
