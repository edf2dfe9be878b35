-- Anchors for which the new keys of a history account.
use Rattle.std.specs.Prelude.{ℕ, List}
use Rattle.anchor_rules.specs.Anchors.{Anchors, AreAnchors}
use Rattle.leaf_spans.specs.Counting.{Counted}
use Rattle.leaf_spans.specs.Spread.{size_in}
use Rattle.map_model.specs.History.{Entry, IsLegal, after}
use Rattle.history_sizes.specs.Sizes.{new_keys, longest_new}
use Rattle.row_words.specs.declared.shape.Shape.{Shape}

-- the new keys of a legal history account for so many changes of the anchors, for their lengths and for the sizes of all leaves
pub record AreAccounted (k : Shape) (A : Anchors) (h : List Entry) (changes : ℕ) : Type 0 where
  pub anchors : AreAnchors A
  pub legal : IsLegal h
  pub counted : Counted A (size_in A (after h)) k.soft (new_keys h) changes (longest_new h)
