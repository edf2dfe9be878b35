use Rattle.std.proofs.Common.{◌≡◌, ℕ, List, [], ◌∷◌, sym, subst}
use Rattle.anchor_rules.specs.Anchors.{Anchors, splits}
use Rattle.row_words.specs.declared.shape.Shape.{Shape}
use Rattle.meta_trie.specs.Stands.{StandsFor}
use Rattle.base_tests.proofs.shared.three_anchors.Goals as goal

same_shape : (old new : Shape) (ws : List ℕ) (A : Anchors) → new ≡ old → StandsFor old ws A → StandsFor new ws A
same_shape old new ws A e t = subst (λ (k : Shape). StandsFor k ws A) (sym e) t

pub add_anchor-requires-2-clause-table : goal.add_anchor-requires-2-clause-table
add_anchor-requires-2-clause-table c = (
  ([], 0) ∷ (c.in_ok-jo.jo, 1) ∷ [],
  (
    same_shape _ _ _ _ c.in_ok-add_anchor.ensures.shape (c.in_ok-add_anchor.ensures.ok (([], 0) ∷ []) c.start.ensures.table),
    λ i. splits (([], 0) ∷ (c.in_ok-jo.ensures.0 i, 1) ∷ []) 1 (c.in_ok-jos.ensures.0 i) 2,
  ),
)

pub returns : goal.returns
returns c =
    let two = same_shape _ _ _ _ c.in_ok-add_anchor.ensures.shape (c.in_ok-add_anchor.ensures.ok (([], 0) ∷ []) c.start.ensures.table) in (
      c.in_ok-jo.jo,
      c.in_ok-jos.jos,
      same_shape _ _ _ _ c.in_ok-add_anchor-2.ensures.shape (c.in_ok-add_anchor-2.ensures.ok (([], 0) ∷ (c.in_ok-jo.jo, 1) ∷ []) two),
    )
