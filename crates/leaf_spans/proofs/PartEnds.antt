-- Where a part of the map ends, and what it has.
use Rattle.std.proofs.Common.{◌≡◌, ◌≢◌, ℕ, List, [], Bool, true, false, cond, not, ◌&&◌, Option, Some, None, refl, sym, ap, ◌∙◌, subst, true≢false}
use Rattle.std.specs.declared.cmp.Ordering.{Ordering}
use Rattle.std.specs.declared.cmp.Ordering.TheVariants.{Less, Equal, Greater}
use Rattle.std.specs.Ordering.{is_lt, ordering_reverse}
use Rattle.key_bytes.specs.Order.{is_below}
use Rattle.key_bytes.specs.Bound.{bound_cmp}
use Rattle.key_bytes.specs.declared.bound.Bound.{Bound}
use Rattle.key_bytes.specs.declared.bound.Bound.TheVariants.{Low, At, High}
use Rattle.key_bytes.proofs.Orders.{less_from, bound_cmp-back}
use Rattle.anchor_rules.specs.Anchors.{Anchors, Span, is_before, in_span, span, target, AreAnchors}
use Rattle.anchor_rules.proofs.Spans.{in_target}
use Rattle.map_model.specs.Maps.{Pairs, between}
use Rattle.map_model.proofs.Cuts.{end_within}
use Rattle.leaf_spans.specs.Ends.{end_bound, leaf_from, span_end, lesser, part_end}
use Rattle.leaf_spans.specs.Spread.{Spread}
use Rattle.leaf_spans.proofs.Ranges.{part_at, part_low}

-- the lower one of two ends is one of them, and above neither
pub lesser_left : (a b : Bound) → bound_cmp (lesser a b) a ≢ Greater
lesser_left a b = by (is_lt (bound_cmp a b)) refl
  where
    reversed : (o : Ordering) → is_lt o ≡ false → ordering_reverse o ≢ Greater
    reversed Less e = absurd (true≢false e)
    reversed Equal e = λ f. absurd (cc (f))
    reversed Greater e = λ f. absurd (cc (f))

    by : (t : Bool) → is_lt (bound_cmp a b) ≡ t → bound_cmp (cond t a b) a ≢ Greater
    by true e = end_within a
    by false e = λ f. reversed (bound_cmp a b) e (sym (bound_cmp-back a b) ∙ f)

pub lesser_right : (a b : Bound) → bound_cmp (lesser a b) b ≢ Greater
lesser_right a b = by (is_lt (bound_cmp a b)) refl
  where
    by : (t : Bool) → is_lt (bound_cmp a b) ≡ t → bound_cmp (cond t a b) b ≢ Greater
    by true e = λ f. absurd (cc (less_from (bound_cmp a b) e, f))
    by false e = end_within b

pub lesser_above : (from a b : Bound) → bound_cmp from a ≡ Less → bound_cmp from b ≡ Less → bound_cmp from (lesser a b) ≡ Less
lesser_above from a b e f = elim (is_lt (bound_cmp a b)) as (λ t. bound_cmp from (cond t a b) ≡ Less) [ true ↦ e | false ↦ f ]

-- a key in a span is below its end
below_end : (key : List ℕ) (s : Span) → in_span s key ≡ true → bound_cmp (At key) (end_bound s.1) ≡ Less
below_end key s within = by s.1 (second (not (is_below key s.0)) (is_before s.1 key) within)
  where
    second : (x y : Bool) → (x && y) ≡ true → y ≡ true
    second true y e = e
    second false y e = absurd (true≢false (sym e))

    by : (end : Option (List ℕ)) → is_before end key ≡ true → bound_cmp (At key) (end_bound end) ≡ Less
    by None e = refl
    by (Some end) e = less_from _ e

low_below : (end : Option (List ℕ)) → bound_cmp Low (end_bound end) ≡ Less
low_below None = refl
low_below (Some end) = refl

-- a part is empty only where its leaf has no key in the range: it ends above its lower end
span_end_above : (A : Anchors) → AreAnchors A → (from to : Bound) → bound_cmp from to ≡ Less → bound_cmp from (span_end (span A (leaf_from A from))) ≡ Less
span_end_above A are Low to less =
    let h = in_target A are [] in
    ap (λ o. bound_cmp Low (span_end o)) h.1 ∙ low_below h.0.1
span_end_above A are (At key) to less =
    let h = in_target A are key in
    ap (λ o. bound_cmp (At key) (span_end o)) h.1 ∙ below_end key h.0 h.2
span_end_above A are High Low less = absurd (cc (less))
span_end_above A are High (At key) less = absurd (cc (less))
span_end_above A are High High less = absurd (cc (less))

pub part_end_above : (A : Anchors) → AreAnchors A → (from to : Bound) → bound_cmp from to ≡ Less → bound_cmp from (part_end A from to) ≡ Less
part_end_above A are from to less = lesser_above from (span_end (span A (leaf_from A from))) to (span_end_above A are from to less) less

pub part_end_within : (A : Anchors) (from to : Bound) → bound_cmp (part_end A from to) to ≢ Greater
part_end_within A from to = lesser_right (span_end (span A (leaf_from A from))) to

module _ {V : Type 0} (A : Anchors) (are : AreAnchors A) (m : Pairs V) (maps : ℕ → Pairs V) (spread : Spread A m maps) where
  -- a part is found in one leaf
  pub part_pairs : (from to : Bound) → bound_cmp from to ≡ Less → between m from (part_end A from to) ≡ between (maps (leaf_from A from)) from (part_end A from to)
  part_pairs Low to less =
      let h = in_target A are [] in
      part_low A are m maps spread h.0 (part_end A Low to) (subst (λ o. bound_cmp (part_end A Low to) (span_end o) ≢ Greater) h.1 (lesser_left (span_end (span A (target A []))) to)) h.1
  part_pairs (At key) to less =
      let h = in_target A are key in
      part_at A are m maps spread h.0 (part_end A (At key) to) (subst (λ o. bound_cmp (part_end A (At key) to) (span_end o) ≢ Greater) h.1 (lesser_left (span_end (span A (target A key))) to)) key h.1
  part_pairs High Low less = absurd (cc (less))
  part_pairs High (At key) less = absurd (cc (less))
  part_pairs High High less = absurd (cc (less))
