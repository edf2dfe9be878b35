-- A table after a merge of two leaves.
use Rattle.std.proofs.Common.{◌≡◌, ℕ, true, ap, ◌∙◌}
use Rattle.anchor_rules.specs.Anchors.{AreAnchors, adjacent, with_merge}
use Rattle.leaf_spans.specs.Spread.{size_in}
use Rattle.leaf_spans.proofs.Merging.{merge_size, merge_size_other}
use Rattle.map_model.specs.Maps.{IsMap}
use Rattle.leaf_table.specs.Changes.{IsMerged}
use Rattle.leaf_table.specs.Table.{Table, size_at}

pub is_merged : (old new : Table) (left right : ℕ) → AreAnchors old.anchors → IsMap old.map → adjacent old.anchors left right ≡ true
    → new.shape ≡ old.shape → new.anchors ≡ with_merge old.anchors right → new.map ≡ old.map → IsMerged old new left right
is_merged old new left right are up next shape anchors map =
    let A = old.anchors in
    let m = old.map in
    let now : (i : ℕ) → size_at new i ≡ size_in (with_merge A right) m i = λ i. ap (λ B. size_in B new.map i) anchors ∙ ap (λ p. size_in (with_merge A right) p i) map in
    record {
      adjacent = next;
      shape = shape;
      anchors = anchors;
      map = map;
      size = now left ∙ merge_size A m left right are.rises up next;
      others = λ other nl nr. now other ∙ merge_size_other A m left right are.rises up next other nl nr;
    }
