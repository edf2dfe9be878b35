-- A table after a split of a leaf.
use Rattle.std.proofs.Common.{◌≡◌, ℕ, ◌<◌, ap, ◌∙◌}
use Rattle.anchor_rules.specs.Anchors.{with_split}
use Rattle.leaf_spans.specs.Spread.{size_in}
use Rattle.leaf_spans.proofs.Halving.{parting_splits, stay_size, go_size, split_size_other}
use Rattle.map_model.specs.Halves.{parting}
use Rattle.map_model.specs.Maps.{IsMap}
use Rattle.meta_trie.specs.Stands.{IsFreeLeaf}
use Rattle.leaf_table.specs.Changes.{IsSplit}
use Rattle.leaf_table.specs.Table.{Table, pairs_at, size_at}

pub is_split : (old new : Table) (leaf right : ℕ) → IsMap old.map → 1 < size_at old leaf → IsFreeLeaf old.shape old.anchors right
    → new.shape ≡ old.shape → new.anchors ≡ with_split old.anchors leaf (parting (pairs_at old leaf)) right → new.map ≡ old.map → IsSplit old new leaf
is_split old new leaf right up many free shape anchors map =
    let A = old.anchors in
    let m = old.map in
    let now : (i : ℕ) → size_at new i ≡ size_in (with_split A leaf (parting (pairs_at old leaf)) right) m i = λ i. ap (λ B. size_in B new.map i) anchors ∙ ap (λ p. size_in (with_split A leaf (parting (pairs_at old leaf)) right) p i) map in
    record {
      right = right;
      free = free;
      splits = parting_splits A m leaf right up many free.dead;
      shape = shape;
      anchors = anchors;
      map = map;
      left_size = now leaf ∙ stay_size A m leaf right up many free.dead;
      right_size = now right ∙ go_size A m leaf right up many free.dead;
      others = λ other nl nr. now other ∙ split_size_other A m leaf right up many free.dead other nl nr;
    }
