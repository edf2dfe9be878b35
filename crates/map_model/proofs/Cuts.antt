-- Where the ends of a range are among ascending pairs, and what is between.
use Rattle.std.proofs.Common.{◌≡◌, ◌≢◌, ℕ, ◌+◌, ◌-◌, ◌<◌, ◌≤◌, List, [], ◌∷◌, ◌++◌, Bool, true, false, not, ◌&&◌, refl, sym, ap, ◌∙◌, subst, inl, inr, arith, length, get_or, take, drop, suc, take-append-drop, length-drop}
use mathlib.Core.Bool.{false≢true}
use Rattle.std.specs.declared.cmp.Ordering.TheVariants.{Less, Greater}
use Rattle.std.specs.Prelude.{filter}
use Rattle.std.specs.Ordering.{is_lt}
use Rattle.std.specs.List.{AllByRecursion}
use Rattle.std.proofs.Math.Seq.{take-add}
use Rattle.std.proofs.lemmas.Bool.{cases_lt}
use Rattle.std.proofs.lemmas.Cmp.{nat_list_cmp_total, tied_itself}
use Rattle.std.proofs.lemmas.List.{drop-drop, append-nil, drop_more, append_cancel_left, length-take-le}
use Rattle.std.proofs.lemmas.List.Elements.{filter-append}
use Rattle.key_bytes.specs.Order.{is_below}
use Rattle.key_bytes.specs.Bound.{bound_cmp, is_under}
use Rattle.key_bytes.specs.declared.bound.Bound.{Bound}
use Rattle.key_bytes.specs.declared.bound.Bound.TheVariants.{Low, At, High}
use Rattle.map_model.specs.Places.{Pair}
use Rattle.map_model.specs.Maps.{Pairs, IsMap, between}
use Rattle.map_model.specs.Places.{IsAt, IsGapFor, IsCut}
use Rattle.map_model.specs.declared.plain.TheConstants.{MOST_PAIRS}
use Rattle.map_model.specs.Plain.{StopsAtNext}
use Rattle.key_bytes.proofs.Orders.{less_from, below_trans, below_not_back, not_below_itself, not_below_cases}
use Rattle.map_model.proofs.Filters.{filter_all, filter_none, all_weaker, all_parts, all_at_take, all_at_drop, all_both}
use Rattle.map_model.proofs.AroundKeys.{ascending_at}
use Rattle.map_model.proofs.Places.{is_at_place}

both_pass : (a b : Bool) → a ≡ false → b ≡ true → (not a && b) ≡ true
both_pass a b h k = ap (λ x. not x && b) h ∙ k

second_fails : (a b : Bool) → b ≡ false → (not a && b) ≡ false
second_fails true b h = refl
second_fails false b h = h

-- the ends are ordered as the keys below them
pub under_mono : (from to : Bound) (k : List ℕ) → bound_cmp from to ≡ Less → is_under from k ≡ true → is_under to k ≡ true
under_mono Low to k less under = absurd (false≢true under)
under_mono (At a) Low k less under = absurd cc
under_mono (At a) (At b) k less under = below_trans k a b under (ap is_lt less)
under_mono (At a) High k less under = refl
under_mono High Low k less under = absurd cc
under_mono High (At b) k less under = absurd cc
under_mono High High k less under = absurd cc

pub from_below : (from : Bound) (k q : List ℕ) → is_under from k ≡ false → is_below k q ≡ true → bound_cmp from (At q) ≡ Less
from_below Low k q above below = refl
from_below (At a) k q above below = elim (not_below_cases k a above) [
  | inl same ↦ less_from _ (subst (λ x. is_below x q ≡ true) same below)
  | inr less ↦ less_from _ (below_trans a k q less below)
]
from_below High k q above below = absurd (false≢true (sym above))

pub key_within : (to : Bound) (k : List ℕ) → is_under to k ≡ true → bound_cmp (At k) to ≢ Greater
key_within Low k under = absurd (false≢true under)
key_within (At t) k under = λ e. absurd (cc (less_from _ under, e))
key_within High k under = λ e. absurd (cc (e))

pub end_within : (to : Bound) → bound_cmp to to ≢ Greater
end_within Low = λ e. absurd (cc (e))
end_within (At t) = λ e. absurd (cc (tied_itself nat_list_cmp_total t, e))
end_within High = λ e. absurd (cc (e))

module _ (m : Pairs (List ℕ)) (from upto : Bound) (i j : ℕ) (start : IsCut m from i) (stop : IsCut m upto j) where
  -- the ends are in order
  pub cuts_ordered : bound_cmp from upto ≡ Less → i ≤ j
  cuts_ordered less = elim (cases_lt j i) [
    | inl below ↦
        let d : Pair = ([], []) in
        let under : is_under from (get_or m j d).0 ≡ true = all_at_take (λ (p : Pair). is_under from p.0 ≡ true) m i j d start.in_range below start.lower in
        let above : is_under upto (get_or m j d).0 ≡ false = all_at_drop (λ (p : Pair). is_under upto p.0 ≡ false) m j d (omega (arith, start.in_range)) stop.upper in
        absurd (false≢true (sym above ∙ under_mono from upto _ less under))
    | inr le ↦ le
  ]

  -- what is between is what stands between
  pub between_cuts : i ≤ j → between m from upto ≡ take (j - i) (drop i m)
  between_cuts le =
      let test = λ (p : Pair). not (is_under from p.0) && is_under upto p.0 in
      let middle = take (j - i) (drop i m) in
      let count : i + (j - i) ≡ j = omega arith in
      let front_all : take j m ≡ take i m ++ middle = ap (λ k. take k m) (sym count) ∙ take-add i (j - i) m in
      let back_all : drop i m ≡ middle ++ drop j m = sym (take-append-drop (j - i) (drop i m)) ∙ ap (λ ys. middle ++ ys) (drop-drop (j - i) i m ∙ ap (λ k. drop k m) count) in
      let whole : m ≡ take i m ++ (middle ++ drop j m) = sym (take-append-drop i m) ∙ ap (λ ys. take i m ++ ys) back_all in
      let mid_from = (all_parts (λ (p : Pair). is_under from p.0 ≡ false) middle (drop j m) (subst (AllByRecursion (λ (p : Pair). is_under from p.0 ≡ false)) back_all start.upper)).0 in
      let mid_upto = (all_parts (λ (p : Pair). is_under upto p.0 ≡ true) (take i m) middle (subst (AllByRecursion (λ (p : Pair). is_under upto p.0 ≡ true)) front_all stop.lower)).1 in
      ap (filter test) whole
      ∙ (filter-append test (take i m) (middle ++ drop j m)
      ∙ (ap (λ xs. xs ++ filter test (middle ++ drop j m)) (filter_none test (take i m) (all_weaker (λ (p : Pair). is_under from p.0 ≡ true) (λ (p : Pair). test p ≡ false) (λ p h. ap (λ b. not b && is_under upto p.0) h) (take i m) start.lower))
      ∙ (filter-append test middle (drop j m)
      ∙ (ap (λ xs. xs ++ filter test (drop j m)) (filter_all test middle (all_both (λ (p : Pair). is_under from p.0 ≡ false) (λ (p : Pair). is_under upto p.0 ≡ true) (λ (p : Pair). test p ≡ true) (λ p h k. both_pass _ _ h k) middle mid_from mid_upto))
      ∙ (ap (λ ys. middle ++ ys) (filter_none test (drop j m) (all_weaker (λ (p : Pair). is_under upto p.0 ≡ false) (λ (p : Pair). test p ≡ false) (λ p h. second_fails _ _ h) (drop j m) stop.upper))
      ∙ append-nil middle)))))

-- the cut at a key that was searched
pub cut_at : (m : Pairs (List ℕ)) (k : List ℕ) (i : ℕ) → IsAt m k i → IsCut m (At k) i
cut_at m k i at =
    let back : drop i m ≡ (k, at.value) ∷ drop (i + 1) m = append_cancel_left (take i m) (drop i m) _ (take-append-drop i m ∙ at.whole) in
    record {
      in_range = omega (arith, at.in_range);
      lower = at.lower;
      upper = subst (AllByRecursion (λ (p : Pair). is_below p.0 k ≡ false)) (sym back) (not_below_itself k, all_weaker (λ (p : Pair). is_below k p.0 ≡ true) (λ (p : Pair). is_below p.0 k ≡ false) (λ p h. below_not_back k p.0 h) (drop (i + 1) m) at.upper);
    }

pub cut_gap : (m : Pairs (List ℕ)) (k : List ℕ) (i : ℕ) → IsGapFor m k i → IsCut m (At k) i
cut_gap m k i gap = record {
  in_range = gap.in_range;
  lower = gap.lower;
  upper = all_weaker (λ (p : Pair). is_below k p.0 ≡ true) (λ (p : Pair). is_below p.0 k ≡ false) (λ p h. below_not_back k p.0 h) (drop i m) gap.upper;
}

-- the cut at the key of a place
pub cut_here : (m : Pairs (List ℕ)) (i : ℕ) (x : Pair) → IsMap m → i < length m → x ≡ get_or m i x → IsCut m (At x.0) i
cut_here m i x up lt read = cut_at m x.0 i (is_at_place m up i x lt read)

-- a part that ends at the key of a place before the upper end
module _ (m : Pairs (List ℕ)) (up : IsMap m) (from to : Bound) (i j end : ℕ) (start : IsCut m from i) (stop : IsCut m to j) (x : Pair) (read : x ≡ get_or m end x) (after : i < end) (before : end < j) where
  pub part_pairs : between m from (At x.0) ≡ take (end - i) (drop i m)
  part_pairs = between_cuts m from (At x.0) i end start (cut_here m end x up (omega (arith, stop.in_range)) read) (omega arith)

  pub part_above : bound_cmp from (At x.0) ≡ Less
  part_above =
      let in_range : i < length m = omega (arith, stop.in_range) in
      let first : is_under from (get_or m i x).0 ≡ false = all_at_drop (λ (p : Pair). is_under from p.0 ≡ false) m i x in_range start.upper in
      from_below from (get_or m i x).0 x.0 first (subst (λ (p : Pair). is_below (get_or m i x).0 p.0 ≡ true) (sym read) (ascending_at m up i end x after (omega (arith, stop.in_range))))

  pub part_within : bound_cmp (At x.0) to ≢ Greater
  part_within = key_within to x.0 (subst (λ (p : Pair). is_under to p.0 ≡ true) (sym read) (all_at_take (λ (p : Pair). is_under to p.0 ≡ true) m j end x stop.in_range before stop.lower))

  -- it stops at the next pair of the range
  pub part_stops : (key : List ℕ) (pairs : Pairs (List ℕ)) → key ≡ x.0 → pairs ≡ take (end - i) (drop i m) → end - i ≡ MOST_PAIRS → StopsAtNext m from to (At key) pairs
  part_stops key pairs same are count =
      let rest = j - end - 1 in
      let in_range : end < length m = omega (arith, stop.in_range) in
      let counts : j - i ≡ (end - i) + suc rest = omega arith in
      let there : i + (end - i) ≡ end = omega arith in
      let long : end - i ≤ length (drop i m) = omega (arith, length-drop i m) in
      let next : drop (end - i) (drop i m) ≡ x ∷ drop (end + 1) m = drop-drop (end - i) i m ∙ (ap (λ k. drop k m) there ∙ (drop_more m end x in_range ∙ ap (λ (p : Pair). p ∷ drop (end + 1) m) (sym read))) in
      let range = between_cuts m from to i j start stop (omega arith)
      ∙ (ap (λ n. take n (drop i m)) counts ∙ (take-add (end - i) (suc rest) (drop i m) ∙ ap (λ (ys : Pairs (List ℕ)). take (end - i) (drop i m) ++ take (suc rest) ys) next)) in
      record {
        full = ap length are ∙ (length-take-le (end - i) (drop i m) long ∙ count);
        key = x.0;
        value = x.1;
        rest = take rest (drop (end + 1) m);
        range = range ∙ ap (λ (ys : Pairs (List ℕ)). ys ++ x ∷ take rest (drop (end + 1) m)) (sym are);
        end = ap At same;
      }
