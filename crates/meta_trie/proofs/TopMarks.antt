-- The greatest of the marks, and the longest anchor.
use Rattle.std.proofs.Common.{◌≡◌, ℕ, ◌+◌, ◌-◌, ◌<◌, ◌≤◌, inl, inr, List, [], ◌∷◌, length, sym, ap, ◌∙◌, refl, arith, eqb-true}
use Rattle.std.specs.Prelude.{Bool, true, false, ◌==◌, max, is_some, Option}
use mathlib.Core.Bool.{false≢true}
use Rattle.std.proofs.lemmas.Bool.{cases_order, eqb-false}
use Rattle.anchor_rules.specs.Anchors.{Anchors, Span, has_leaf}
use Rattle.anchor_rules.specs.Items.{longest_anchor}
use Rattle.anchor_rules.proofs.Spans.{span_later}
use Rattle.row_words.specs.declared.shape.Shape.{Shape}
use Rattle.row_words.specs.Layout.{leaf_word}
use Rattle.row_words.specs.Decode.{mark_at, anchor_at}
use Rattle.row_words.proofs.Packed.{length-bytes}
use Rattle.meta_trie.specs.Stands.{LeafChain}
use Rattle.meta_trie.specs.Shrinks.{IsTopMark}

-- the length of a row's anchor, by its mark
anchor_length : (k : Shape) (ws : List ℕ) (leaf : ℕ) (a : List ℕ) → anchor_at k ws leaf ≡ a → length a ≡ mark_at k ws leaf - 1
anchor_length k ws leaf a e = sym (ap length e) ∙ length-bytes ws (leaf_word k leaf + 1) (mark_at k ws leaf - 1)

longest_below : (k : Shape) (ws : List ℕ) (A : Anchors) (previous top : ℕ) → ((leaf : ℕ) → leaf < k.leaves → mark_at k ws leaf ≤ top) → LeafChain k ws previous A → longest_anchor A ≤ top - 1
longest_below k ws [] previous top most c = omega arith
longest_below k ws (q ∷ A) previous top most c =
    let here = most q.1 c.0.0 in
    let len = anchor_length k ws q.1 q.0 c.1 in
    let rest = longest_below k ws A (q.1 + 1) top most c.4 in
    omega (arith, here, len, rest)

longest_reached : (k : Shape) (ws : List ℕ) (A : Anchors) (previous leaf : ℕ) → LeafChain k ws previous A → has_leaf A leaf ≡ true → mark_at k ws leaf - 1 ≤ longest_anchor A
longest_reached k ws [] previous leaf c here = absurd (false≢true here)
longest_reached k ws (q ∷ A) previous leaf c here = elim (q.1 == leaf) as (λ (t : Bool). (q.1 == leaf) ≡ t → has_leaf (q ∷ A) leaf ≡ true → mark_at k ws leaf - 1 ≤ max (length q.0) (longest_anchor A)) [
  | true ↦ λ is e.
      let len = anchor_length k ws q.1 q.0 c.1 in
      let same : mark_at k ws q.1 ≡ mark_at k ws leaf = ap (mark_at k ws) (eqb-true q.1 leaf is) in
      omega (arith, len, same)
  | false ↦ λ is e.
      let rest = longest_reached k ws A (q.1 + 1) leaf c.4 (ap (λ (s : Option Span). is_some s) (sym (span_later q A leaf (eqb-false q.1 leaf is))) ∙ e) in
      omega (arith, rest)
] refl here

-- the longest anchor is as long as the greatest mark says
pub longest_is : (k : Shape) (ws : List ℕ) (A : Anchors) (previous top : ℕ) → LeafChain k ws previous A → ((leaf : ℕ) → leaf < k.leaves → has_leaf A leaf ≡ false → mark_at k ws leaf ≡ 0) → IsTopMark k ws top → top - 1 ≡ longest_anchor A
longest_is k ws A previous top c dead t =
    let below = longest_below k ws A previous top t.most c in
    let above : top - 1 ≤ longest_anchor A = elim (cases_order 1 top) [
      | inl one ↦ omega (arith, one)
      | inr r ↦ elim r [
        | inl more ↦ reach more
        | inr less ↦ omega (arith, less)
      ]
    ] in
    omega (arith, below, above)
  where
    reach : 1 < top → top - 1 ≤ longest_anchor A
    reach more =
        let w = t.reached more in
        let mark = w.1.1 in
        elim (has_leaf A w.0) as (λ (b : Bool). has_leaf A w.0 ≡ b → top - 1 ≤ longest_anchor A) [
          | true ↦ λ is. (let l = longest_reached k ws A previous w.0 c is in omega (arith, l, mark))
          | false ↦ λ is. absurd (let z = dead w.0 w.1.0 is in omega (arith, z, mark, more))
        ] refl
