-- A range that ends within a leaf's span, as it is found in that leaf.
use Rattle.std.proofs.Common.{◌≡◌, ◌≢◌, ℕ, List, [], ◌∷◌, Bool, true, false, cond, not, ◌&&◌, Option, Some, None, refl, sym, ap, ◌∙◌, subst, true≢false}
use Rattle.std.specs.declared.cmp.Ordering.TheVariants.{Greater}
use Rattle.key_bytes.specs.Order.{is_below}
use Rattle.key_bytes.specs.Bound.{bound_cmp, is_under}
use Rattle.key_bytes.specs.declared.bound.Bound.{Bound}
use Rattle.key_bytes.specs.declared.bound.Bound.TheVariants.{Low, At}
use Rattle.key_bytes.proofs.Orders.{below_behind, not_below_empty}
use Rattle.anchor_rules.specs.Anchors.{Anchors, Span, is_before, in_span, next_anchor, span, target_from, target, AreAnchors}
use Rattle.anchor_rules.proofs.Spans.{Over, in_target, target_over, span_here}
use Rattle.map_model.specs.Maps.{Pairs, between, is_in}
use Rattle.map_model.proofs.Parts.{keep_keep, under_within}
use Rattle.leaf_spans.specs.Ends.{end_bound}
use Rattle.leaf_spans.specs.Spread.{Spread, inside}

-- the empty key's leaf is the first one
pub target_first : (x : List ℕ × ℕ) (xs : Anchors) → AreAnchors (x ∷ xs) → target (x ∷ xs) [] ≡ x.1
target_first x xs are =
    let empty : x.0 ≡ [] = some_is x.0 [] are.first in
    ap (λ b. target_from (cond b 0 x.1) xs []) (not_above_first x.0 empty) ∙ target_over x.1 xs [] (above xs are.rises.0)
  where
    some_is : (a b : List ℕ) → Some a ≡ Some b → a ≡ b
    some_is a b e = cc

    not_above_first : (a : List ℕ) → a ≡ [] → is_below [] a ≡ false
    not_above_first a e = ap (λ b. is_below [] b) e

    above : (ys : Anchors) → Over x.0 ys → Over [] ys
    above ys over = subst (λ a. Over a ys) (some_is x.0 [] are.first) over

pub span_first : (x : List ℕ × ℕ) (xs : Anchors) → span (x ∷ xs) x.1 ≡ Some (x.0, next_anchor xs)
span_first x xs = span_here x xs x.1 refl

-- a key under an end that isn't above a span's is before its end
before_under : (end : Option (List ℕ)) (upto : Bound) (k : List ℕ) → bound_cmp upto (end_bound end) ≢ Greater → is_under upto k ≡ true → is_before end k ≡ true
before_under None upto k within under = refl
before_under (Some end) upto k within under = under_within upto (At end) k within under

-- a test that another follows from
stronger : (p q : Bool) → (q ≡ true → p ≡ true) → q ≡ (p && q)
stronger true q follows = refl
stronger false true follows = absurd (true≢false (sym (follows refl)))
stronger false false follows = refl

-- both tests of a span
pub and_parts : (x y : Bool) → (not x && y) ≡ true → (x ≡ false) × (y ≡ true)
and_parts true y e = absurd (true≢false (sym e))
and_parts false y e = (refl, e)

both : (x y : Bool) → x ≡ false → y ≡ true → (not x && y) ≡ true
both x y e f = ap (λ b. not b && y) e ∙ f

low_part : (s : Span) (key : List ℕ) → in_span s key ≡ true → is_below key s.0 ≡ false
low_part s key e = (and_parts (is_below key s.0) (is_before s.1 key) e).0

not_below_higher : (k key low : List ℕ) → is_below k key ≡ false → is_below key low ≡ false → is_below k low ≡ false
not_below_higher k key low e f = by (is_below k low) refl
  where
    by : (b : Bool) → is_below k low ≡ b → is_below k low ≡ false
    by true q = absurd (true≢false (sym (below_behind key k low e q) ∙ f))
    by false q = q

module _ {V : Type 0} (A : Anchors) (are : AreAnchors A) (m : Pairs V) (maps : ℕ → Pairs V) (spread : Spread A m maps) (s : Span) (upto : Bound) (within : bound_cmp upto (end_bound s.1) ≢ Greater) where
  -- a range all of whose keys are in the span
  from_span : (leaf : ℕ) (from : Bound) → span A leaf ≡ Some s → ((k : List ℕ) → is_under from k ≡ false → is_below k s.0 ≡ false) → between m from upto ≡ between (maps leaf) from upto
  from_span leaf from is low = sym (ap (λ (p : Pairs V). between p from upto) (spread.parts leaf ∙ ap (λ o. inside o m) is)
      ∙ keep_keep m spread.ascends (in_span s) (is_in from upto) (is_in from upto) (λ k. stronger (in_span s k) (is_in from upto k) (λ e.
      let h = and_parts (is_under from k) (is_under upto k) e in
      both (is_below k s.0) (is_before s.1 k) (low k h.0) (before_under s.1 upto k within h.1))))

  -- from a key on
  pub part_at : (key : List ℕ) → span A (target A key) ≡ Some s → between m (At key) upto ≡ between (maps (target A key)) (At key) upto
  part_at key is =
      let h = in_target A are key in
      let same : h.0 ≡ s = span_is h.0 s (sym h.1 ∙ is) in
      let within_span : in_span s key ≡ true = subst (λ t. in_span t key ≡ true) same h.2 in
      from_span (target A key) (At key) is (λ k e. not_below_higher k key s.0 e (low_part s key within_span))
    where
      span_is : (t u : Span) → Some t ≡ Some u → t ≡ u
      span_is t u e = cc

  -- from the lowest key on
  pub part_low : span A (target A []) ≡ Some s → between m Low upto ≡ between (maps (target A [])) Low upto
  part_low is =
      let h = in_target A are [] in
      let same : h.0 ≡ s = span_is h.0 s (sym h.1 ∙ is) in
      let within_span : in_span s [] ≡ true = subst (λ t. in_span t [] ≡ true) same h.2 in
      from_span (target A []) Low is (λ k e. not_below_higher k [] s.0 (not_below_empty k) (low_part s [] within_span))
    where
      span_is : (t u : Span) → Some t ≡ Some u → t ≡ u
      span_is t u e = cc
