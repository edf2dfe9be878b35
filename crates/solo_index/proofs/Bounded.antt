-- What a change of a table does to the bounds on its leaves and anchors.
use Rattle.std.proofs.Common.{◌≡◌, ◌≢◌, ℕ, ◌+◌, ◌/◌, ◌<◌, ◌≤◌, List, [], ◌∷◌, length, cond, true, None, Option, is_some, sym, ap, ◌∙◌, subst, arith}
use Rattle.anchor_rules.specs.Anchors.{Anchors, Span, AreAnchors, target, with_split, with_merge}
use Rattle.anchor_rules.proofs.Parts.{Cut, cut}
use Rattle.leaf_spans.specs.Counting.{Counted}
use Rattle.leaf_spans.specs.Spread.{size_in}
use Rattle.leaf_spans.proofs.Counts.{counted_first, counted_looser, counted_grow, counted_fall, counted_halves, counted_joins}
use Rattle.leaf_spans.proofs.Sizes.{size_with, size_with_other, size_without, size_without_other}
use Rattle.leaf_spans.proofs.Spreads.{target_live}
use Rattle.map_model.specs.Halves.{parting}
use Rattle.map_model.specs.Maps.{Pairs, IsMap, find, with, without}
use Rattle.row_words.specs.declared.shape.Shape.{Shape}
use Rattle.leaf_table.specs.Changes.{IsSplit, IsMerged}
use Rattle.leaf_table.specs.Table.{Table, size_at, pairs_at}
use Rattle.solo_index.specs.Standing.{IsBounded}
use Rattle.solo_index.specs.Tending.{HasMap}

-- more new keys, and longer ones
pub bounded_looser : (t : Table) (p q l m : ℕ) → p ≤ q → l ≤ m → IsBounded t p l → IsBounded t q m
bounded_looser t p q l m more longer b = counted_looser t.anchors (size_at t) t.shape.soft p q 0 0 l m more (omega arith) longer b

-- a new table
pub bounded_first : (t : Table) → t.anchors ≡ ([], 0) ∷ [] → t.map ≡ [] → IsBounded t 0 0
bounded_first t anchors none = subst (λ (A : Anchors). Counted A (size_at t) t.shape.soft 0 0 0) (sym anchors) (counted_first (size_at t) 0 t.shape.soft empty)
  where
    empty : size_at t 0 ≡ 0
    empty = ap (λ (A : Anchors). size_in A t.map 0) anchors ∙ ap (λ (m : Pairs (List ℕ)). size_in (([], 0) ∷ []) m 0) none

module _ (t u : Table) (m : Pairs (List ℕ)) (p l : ℕ) (writes : HasMap t u m) where
  -- the size of a leaf in the new table
  size_now : (leaf : ℕ) → size_at u leaf ≡ size_in t.anchors m leaf
  size_now leaf = ap (λ (A : Anchors). size_in A u.map leaf) writes.anchors ∙ ap (λ (n : Pairs (List ℕ)). size_in t.anchors n leaf) writes.now

  -- in the words of the new table
  in_new : (q : ℕ) → Counted t.anchors (size_at u) t.shape.soft q 0 l → IsBounded u q l
  in_new q c = subst (λ (A : Anchors). Counted A (size_at u) u.shape.soft q 0 l) (sym writes.anchors) (subst (λ (k : Shape). Counted t.anchors (size_at u) k.soft q 0 l) (sym writes.shape) c)

module _ (t u : Table) (are : AreAnchors t.anchors) (up : IsMap t.map) (key value : List ℕ) (p l : ℕ) (b : IsBounded t p l) (writes : HasMap t u (with t.map key value)) where
  here : size_at u (target t.anchors key) ≡ cond (is_some (find t.map key)) (size_at t (target t.anchors key)) (size_at t (target t.anchors key) + 1)
  here = size_now t u (with t.map key value) p l writes (target t.anchors key) ∙ size_with t.anchors are t.map up key value

  elsewhere : (other : ℕ) → other ≢ target t.anchors key → size_at u other ≡ size_at t other
  elsewhere other ne = size_now t u (with t.map key value) p l writes other ∙ size_with_other t.anchors are t.map up key value other ne

  -- a put of a new key
  pub bounded_new : find t.map key ≡ None → IsBounded u (p + 1) l
  bounded_new none = in_new t u (with t.map key value) p l writes (p + 1) (counted_grow t.anchors are.rises (size_at t) (size_at u) t.shape.soft p 0 l b (target t.anchors key) (target_live t.anchors are key)
      (here ∙ ap (λ (o : Option (List ℕ)). cond (is_some o) (size_at t (target t.anchors key)) (size_at t (target t.anchors key) + 1)) none) elsewhere)

  -- a put of a key that is there
  pub bounded_set : is_some (find t.map key) ≡ true → IsBounded u p l
  bounded_set some = in_new t u (with t.map key value) p l writes p (counted_fall t.anchors are.rises (size_at t) (size_at u) t.shape.soft p 0 l b (target t.anchors key) (target_live t.anchors are key)
      (let e = here ∙ ap (λ o. cond o (size_at t (target t.anchors key)) (size_at t (target t.anchors key) + 1)) some in omega (arith, e)) elsewhere)

module _ (t u : Table) (are : AreAnchors t.anchors) (up : IsMap t.map) (key : List ℕ) (p l : ℕ) (b : IsBounded t p l) (writes : HasMap t u (without t.map key)) where
  -- a del
  pub bounded_gone : IsBounded u p l
  bounded_gone = in_new t u (without t.map key) p l writes p (counted_fall t.anchors are.rises (size_at t) (size_at u) t.shape.soft p 0 l b (target t.anchors key) (target_live t.anchors are key)
      (let e = size_without t.anchors are t.map up key in let n = size_now t u (without t.map key) p l writes (target t.anchors key) in omega (arith, e, n))
      (λ other ne. size_now t u (without t.map key) p l writes other ∙ size_without_other t.anchors are t.map up key other ne))

-- a split of a leaf with more keys than it should have
pub bounded_split : (t u : Table) (leaf p l : ℕ) → AreAnchors t.anchors → IsSplit t u leaf → t.shape.soft < size_at t leaf → length (parting (pairs_at t leaf)) ≤ l → IsBounded t p l → IsBounded u p l
bounded_split t u leaf p l are s large short b =
    subst (λ (A : Anchors). Counted A (size_at u) u.shape.soft p 0 l) (sym s.anchors) (subst (λ (k : Shape). Counted (with_split t.anchors leaf (parting (pairs_at t leaf)) s.right) (size_at u) k.soft p 0 l) (sym s.shape)
    (counted_looser (with_split t.anchors leaf (parting (pairs_at t leaf)) s.right) (size_at u) t.shape.soft p p 1 0 l l (omega arith) (omega arith) (omega arith)
    (counted_halves t.anchors are.rises (size_at t) (size_at u) t.shape.soft p 0 l b leaf s.right (parting (pairs_at t leaf)) (ap (λ (o : Option Span). is_some o) c.is) c.new large short s.left_size s.right_size s.others)))
  where
    c : Cut t.anchors leaf (parting (pairs_at t leaf)) s.right
    c = cut t.anchors leaf (parting (pairs_at t leaf)) s.right s.splits

-- a merge of two leaves with few enough keys
pub bounded_merge : (t u : Table) (left right p l : ℕ) → AreAnchors t.anchors → IsMerged t u left right → size_at t left + size_at t right ≤ t.shape.soft / 2 → IsBounded t p l → IsBounded u p l
bounded_merge t u left right p l are m small b =
    subst (λ (A : Anchors). Counted A (size_at u) u.shape.soft p 0 l) (sym m.anchors) (subst (λ (k : Shape). Counted (with_merge t.anchors right) (size_at u) k.soft p 0 l) (sym m.shape)
    (counted_looser (with_merge t.anchors right) (size_at u) t.shape.soft p p 1 0 l l (omega arith) (omega arith) (omega arith)
    (counted_joins t.anchors are.rises (size_at t) (size_at u) t.shape.soft p 0 l b (t.shape.soft / 2) left right (omega arith) m.adjacent small m.size m.others)))
