-- The number below which all leaves are live, while anchors come and go.
use Rattle.std.proofs.Common.{◌≡◌, ◌≢◌, ℕ, ◌+◌, List, [], ◌∷◌, true, false, Bool, is_some, Option, Some, None, refl, sym, ap, ◌∙◌, subst, arith, below_more}
use mathlib.Core.Bool.{false≢true}
use mathlib.Core.Logic.{dite}
use native.Mathlib.Decide.{ℕ_discrete}
use Rattle.std.specs.Prelude.{min}
use Rattle.anchor_rules.specs.Anchors.{Anchors, Span, span, has_leaf, with_split, with_merge}
use Rattle.anchor_rules.proofs.Edits.{split_left, split_right, split_else, merge_here, merge_later}
use Rattle.anchor_rules.proofs.Spans.{span_here, span_later}
use Rattle.leaf_store.specs.Leaf.{LeafMap}
use Rattle.meta_trie.specs.Stands.{StandsFor, IsFreeLeaf, anchors_of}
use Rattle.meta_trie.proofs.OnlyOne.{anchors_of-is}
use Rattle.row_words.specs.declared.shape.Shape.{Shape}
use Rattle.leaf_table.specs.Leaves.{table_of, AreLive}
use Rattle.leaf_table.specs.Table.{Table}

abbrev has_some : Option Span → Bool
has_some o = is_some o

some_span : (o : Option Span) → is_some o ≡ true → (s : Span) × (o ≡ Some s)
some_span None has = absurd (false≢true has)
some_span (Some s) has = (s, refl)

no_span_from : (o : Option Span) → is_some o ≡ false → o ≡ None
no_span_from None e = refl
no_span_from (Some s) e = absurd (false≢true (sym e))

-- a leaf that is live stays so where another one is split off
split_keeps : (A : Anchors) (l : ℕ) (a : List ℕ) (r i : ℕ) → has_leaf A l ≡ true → i ≢ r → has_leaf A i ≡ true → has_leaf (with_split A l a r) i ≡ true
split_keeps A l a r i left apart has = dite (ℕ_discrete i l)
    (λ e. let s = some_span (span A l) left in ap (has_leaf (with_split A l a r)) e ∙ ap has_some (split_left A l a r s.0.0 s.0.1 s.1))
    (λ ne. ap has_some (split_else A l a r i ne apart) ∙ has)

-- and the one that is split off is live
split_adds : (A : Anchors) (l : ℕ) (a : List ℕ) (r : ℕ) → has_leaf A l ≡ true → has_leaf A r ≡ false → has_leaf (with_split A l a r) r ≡ true
split_adds A l a r left dead = let s = some_span (span A l) left in ap has_some (split_right A l a r s.0.0 s.0.1 (no_span_from (span A r) dead) s.1)

-- a merge takes no leaf but the right one
merge_keeps_live : (A : Anchors) (r i : ℕ) → i ≢ r → has_leaf A i ≡ true → has_leaf (with_merge A r) i ≡ true
merge_keeps_live [] r i apart has = has
merge_keeps_live (x ∷ xs) r i apart has = dite (ℕ_discrete x.1 r)
    (λ e. ap (λ (B : Anchors). has_leaf B i) (merge_here x xs r e) ∙ (ap has_some (sym (span_later x xs i (λ f. apart (sym f ∙ e)))) ∙ has))
    (λ ne. ap (λ (B : Anchors). has_leaf B i) (merge_later x xs r ne) ∙ dite (ℕ_discrete x.1 i)
    (λ here. ap has_some (span_here x (with_merge xs r) i here))
    (λ off. ap has_some (span_later x (with_merge xs r) i off) ∙ merge_keeps_live xs r i apart (ap has_some (sym (span_later x xs i off)) ∙ has)))

-- below 0 there is no leaf
pub live_none : (A : Anchors) → AreLive A 0
live_none A leaf lt = absurd (omega (arith, lt))

module _ (k same_k : Shape) (ws rows : List ℕ) (e : same_k ≡ k) where
  -- in the same rows the same leaves are live
  pub live_moved : (n : ℕ) → rows ≡ ws → AreLive (anchors_of k ws) n → AreLive (anchors_of same_k rows) n
  live_moved n f live = subst (λ (j : Shape). AreLive (anchors_of j rows) n) (sym e) (subst (λ (w : List ℕ). AreLive (anchors_of k w) n) (sym f) live)

  -- with the least leaf that wasn't live, all up to it are
  pub live_split : (leaves : List (LeafMap (List ℕ))) (t : Table) → table_of k ws leaves ≡ t → (l r : ℕ) (a : List ℕ) → has_leaf t.anchors l ≡ true → IsFreeLeaf k (anchors_of k ws) r
      → StandsFor k rows (with_split (anchors_of k ws) l a r) → AreLive (anchors_of same_k rows) (r + 1)
  live_split leaves t is l r a has free stands =
      let A = anchors_of k ws in
      let left : has_leaf A l ≡ true = subst (λ (u : Table). has_leaf u.anchors l ≡ true) (sym is) has in
      let new : anchors_of k rows ≡ with_split A l a r = anchors_of-is k rows (with_split A l a r) stands in
      let below : AreLive (anchors_of k rows) r = λ i lt. ap (λ (B : Anchors). has_leaf B i) new ∙ split_keeps A l a r i left (λ f. omega (arith, lt, f)) (free.least i lt) in
      let last : has_leaf (anchors_of k rows) r ≡ true = ap (λ (B : Anchors). has_leaf B r) new ∙ split_adds A l a r left free.dead in
      subst (λ (j : Shape). AreLive (anchors_of j rows) (r + 1)) (sym e) (below_more _ _ below last)

  -- without a leaf's anchor, all below it are that were
  pub live_merge : (n m r : ℕ) → m ≡ min n r → StandsFor k rows (with_merge (anchors_of k ws) r) → AreLive (anchors_of k ws) n → AreLive (anchors_of same_k rows) m
  live_merge n m r is stands live =
      let A = anchors_of k ws in
      let new : anchors_of k rows ≡ with_merge A r = anchors_of-is k rows (with_merge A r) stands in
      subst (λ (j : Shape). AreLive (anchors_of j rows) m) (sym e)
      (λ i lt. ap (λ (B : Anchors). has_leaf B i) new ∙ merge_keeps_live A r i (λ f. omega (arith, lt, is, f)) (live i (omega (arith, lt, is))))
