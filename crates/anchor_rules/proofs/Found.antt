-- What a place that was found says of the anchors.
use Rattle.std.proofs.Common.{◌≡◌, ℕ, ◌+◌, ◌-◌, ◌<◌, ◌≤◌, List, [], ◌∷◌, length, drop, get_or, zero, suc, Bool, true, false, cond, eqb, nat_eq, not, ◌&&◌, is_some, Option, Some, None, sym, refl, ap, ◌∙◌, subst, arith, add-one, eqb-true, true≢false}
use Rattle.std.specs.Prelude.{IfSome, insert, remove}
use mathlib.Core.Logic.{dite}
use native.Mathlib.Decide.{ℕ_discrete}
use Rattle.std.specs.declared.cmp.Ordering.{Ordering}
use Rattle.std.specs.declared.cmp.Ordering.TheVariants.{Less, Equal, Greater}
use Rattle.std.specs.Ordering.{is_lt, is_le, ordering_reverse}
use Rattle.std.specs.List.{AllByRecursion, AllWithin, position_from, starts_with}
use Rattle.std.specs.List.Sorted.{IsPartitionedBy, IsPartitionPoint}
use Rattle.key_bytes.specs.Order.{bytes_cmp, is_below}
use Rattle.key_bytes.proofs.Orders.{bytes_cmp-back, below_trans, not_below_empty}
use Rattle.std.proofs.lemmas.Iterator.Adapters.{position_from-zero}
use Rattle.std.proofs.Math.Seq.{drop-nil}
use Rattle.std.proofs.lemmas.List.Quantifiers.{position-Some}
use Rattle.key_bytes.specs.declared.limits.TheConstants.{LONGEST_KEY}
use Rattle.anchor_rules.specs.Anchors.{Anchors, Span, anchor_at, leaf_at, next_anchor, span, has_leaf, target, Rises, AreAnchors, AreShort, cuts, splits, with_split, adjacent, with_merge}
use Rattle.anchor_rules.specs.Closing.{is_closed}
use Rattle.anchor_rules.specs.Places.{place_in, is_next, IsEndFor}
use Rattle.anchor_rules.proofs.Edits.{split_anchors, merge_anchors, all_split, all_merge}
use Rattle.anchor_rules.proofs.Ats.{span_at, split_at, merge_at, adjacent_at, adjacent_none, target_at}
use Rattle.anchor_rules.proofs.Closings.{goes_on, closed_at, start_begins}
use Rattle.anchor_rules.proofs.Parts.{cut, meet}

-- a place that was found is that of the leaf
pub place_at : (A : Anchors) (leaf i : ℕ) → place_in A leaf ≡ Some i → (i < length A) × (leaf_at A i ≡ leaf)
unfolding place_in
place_at A leaf i e =
    let h = position-Some (λ (x : List ℕ × ℕ). eqb x.1 leaf) A i ([], 0) e in
    (h.0, eqb-true (leaf_at A i) leaf h.1)

pub place_found : (A : Anchors) (leaf : ℕ) (o : Option ℕ) → o ≡ place_in A leaf → IfSome o (λ i. (i < length A) × (leaf_at A i ≡ leaf))
place_found A leaf None e = tt
place_found A leaf (Some i) e = place_at A leaf i (sym e)

-- a place is found just for a leaf that is there
pub place_some : (A : Anchors) (leaf : ℕ) → is_some (place_in A leaf) ≡ has_leaf A leaf
unfolding place_in
place_some A leaf = ap (λ (o : Option ℕ). is_some o) (position_from-zero (λ (x : List ℕ × ℕ). eqb x.1 leaf) A) ∙ from A 0
  where
    from : (xs : Anchors) (i : ℕ) → is_some (position_from (λ (x : List ℕ × ℕ). eqb x.1 leaf) i xs) ≡ has_leaf xs leaf
    from [] i = refl
    from (x ∷ xs) i = elim (eqb x.1 leaf) as (λ b. is_some (cond b (Some i) (position_from (λ (x : List ℕ × ℕ). eqb x.1 leaf) (i + 1) xs)) ≡ is_some (cond b (Some (x.0, next_anchor xs)) (span xs leaf))) [ true ↦ refl | false ↦ from xs (i + 1) ]

none_from : (o : Option Span) → is_some o ≡ false → o ≡ None
none_from None e = refl
none_from (Some s) e = absurd (true≢false e)

pub place_none : (A : Anchors) (leaf : ℕ) → place_in A leaf ≡ None → span A leaf ≡ None
place_none A leaf e = none_from (span A leaf) (sym (place_some A leaf) ∙ ap (λ (o : Option ℕ). is_some o) e)

-- the code's next place
next_place : (A : Anchors) (i : ℕ) → drop (suc i) A ≡ drop (i + 1) A
next_place A i = ap (λ n. drop n A) (sym (add-one i))

pub span_found : (A : Anchors) (leaf i : ℕ) → AreAnchors A → place_in A leaf ≡ Some i → span A leaf ≡ Some (anchor_at A i, next_anchor (drop (i + 1) A))
span_found A leaf i are e =
    let h = place_at A leaf i e in
    ap (span A) (sym h.1) ∙ (span_at A i are.rises h.0 ∙ ap (λ zs. Some (anchor_at A i, next_anchor zs)) (next_place A i))

pub adjacent_found : (A : Anchors) (l r i : ℕ) → AreAnchors A → place_in A l ≡ Some i → adjacent A l r ≡ is_next (drop (i + 1) A) r
adjacent_found A l r i are e =
    let h = place_at A l i e in
    ap (λ leaf. adjacent A leaf r) (sym h.1) ∙ (adjacent_at A i r are.rises h.0 ∙ ap (λ zs. is_next zs r) (next_place A i))

pub adjacent_unknown : (A : Anchors) (l r : ℕ) → place_in A l ≡ None → adjacent A l r ≡ false
adjacent_unknown A l r e = adjacent_none A l r (place_none A l e)

pub split_found : (A : Anchors) (l i : ℕ) (a : List ℕ) (r : ℕ) → AreAnchors A → place_in A l ≡ Some i → with_split A l a r ≡ insert A (i + 1) (a, r)
split_found A l i a r are e =
    let h = place_at A l i e in
    ap (λ leaf. with_split A leaf a r) (sym h.1) ∙ (split_at A i a r are.rises h.0 ∙ ap (λ n. insert A n (a, r)) (sym (add-one i)))

-- a split keeps what anchors are
pub split_keeps : (A : Anchors) (l : ℕ) (a : List ℕ) (r : ℕ) → AreAnchors A → splits A l a r ≡ true → AreAnchors (with_split A l a r)
split_keeps A l a r are can = let c = cut A l a r can in split_anchors A l a r c.low c.high c.new c.is c.above c.before are

next_behind : (A : Anchors) (n r : ℕ) → is_next (drop n A) r ≡ true → n < length A
next_behind [] n r is = absurd (true≢false (sym (sym (ap (λ zs. is_next zs r) (drop-nil n)) ∙ is)))
next_behind (x ∷ xs) zero r is = omega arith
next_behind (x ∷ xs) (suc n) r is = let h = next_behind xs n r is in omega arith

next_is : (A : Anchors) (n r : ℕ) → is_next (drop n A) r ≡ true → leaf_at A n ≡ r
next_is [] n r is = absurd (true≢false (sym (sym (ap (λ zs. is_next zs r) (drop-nil n)) ∙ is)))
next_is (x ∷ xs) zero r is = eqb-true x.1 r is
next_is (x ∷ xs) (suc n) r is = next_is xs n r is

-- the right one of two neighbours stands at the next place
pub merge_within : (A : Anchors) (l r i : ℕ) → AreAnchors A → adjacent A l r ≡ true → place_in A l ≡ Some i → i + 1 < length A
merge_within A l r i are next e = next_behind A (i + 1) r (sym (adjacent_found A l r i are e) ∙ next)

pub merge_found : (A : Anchors) (l r i : ℕ) → AreAnchors A → adjacent A l r ≡ true → place_in A l ≡ Some i → with_merge A r ≡ remove A (i + 1)
merge_found A l r i are next e =
    let is = sym (adjacent_found A l r i are e) ∙ next in
    ap (with_merge A) (sym (next_is A (i + 1) r is)) ∙ merge_at A (i + 1) are.rises (next_behind A (i + 1) r is)

-- their lengths stay those of keys
pub split_short : (A : Anchors) (l : ℕ) (a : List ℕ) (r : ℕ) → AreShort A → length a < LONGEST_KEY + 1 → AreShort (with_split A l a r)
split_short A l a r short lt = all_split (λ (x : List ℕ × ℕ). length x.0 < LONGEST_KEY + 1) A l a r short lt

pub merge_short : (A : Anchors) (l r : ℕ) → AreAnchors A → adjacent A l r ≡ true → AreShort A → AreShort (with_merge A r)
merge_short A l r are next short = let m = meet A l r are.rises next in all_merge l r m.apart m.low m.middle m.high (λ (x : List ℕ × ℕ). length x.0 < LONGEST_KEY + 1) A short

-- the anchors ascend after a merge too
pub merge_keeps : (A : Anchors) (l r : ℕ) → AreAnchors A → adjacent A l r ≡ true → AreAnchors (with_merge A r)
merge_keeps A l r are next = let m = meet A l r are.rises next in merge_anchors l r m.apart m.low m.middle m.high A are m.left m.right

-- the leaf before the first anchor above the key
pub target_found : (A : Anchors) (key : List ℕ) (end : ℕ) → IsEndFor A key end → target A key ≡ leaf_at A (end - 1)
target_found A key end is =
    let some : 0 < end = is.some in
    let within : end ≤ length A = is.within in
    target_at A 0 (end - 1) key (omega arith) (λ k le. is.low k (omega arith)) (λ k over below. is.high k (omega arith) below)

pub closed_found : (A : Anchors) (i : ℕ) → AreAnchors A → i < length A → is_closed A (anchor_at A i) ≡ goes_on (anchor_at A i) (next_anchor (drop (i + 1) A))
closed_found A i are lt = closed_at A i are.rises lt ∙ ap (λ zs. goes_on (anchor_at A i) (next_anchor zs)) (next_place A i)

-- the same, where the code has the next anchor
rises_at : (A : Anchors) (i j : ℕ) (d : List ℕ × ℕ) → Rises A → i < j → j < length A → is_below (get_or A i d).0 (get_or A j d).0 ≡ true
rises_at [] i j d rises less lt = absurd (omega arith)
rises_at (x ∷ xs) i zero d rises less lt = absurd (omega arith)
rises_at (x ∷ xs) zero (suc j) d rises less lt = first xs j (omega arith) rises.0
  where
    first : (ys : Anchors) (k : ℕ) → k < length ys → AllByRecursion (λ (y : List ℕ × ℕ). is_below x.0 y.0 ≡ true) ys → is_below x.0 (get_or ys k d).0 ≡ true
    first [] k below all = absurd (omega arith)
    first (y ∷ ys) zero below all = all.0
    first (y ∷ ys) (suc k) below all = first ys k (omega arith) all.1
rises_at (x ∷ xs) (suc i) (suc j) d rises less lt = rises_at xs i j d rises.2 (omega arith) (omega arith)

next_above : (A : Anchors) (i : ℕ) (b : List ℕ) → Rises A → i < length A → next_anchor (drop (suc i) A) ≡ Some b → is_below (anchor_at A i) b ≡ true
next_above [] i b rises lt e = absurd (omega arith)
next_above (x ∷ []) zero b rises lt e = absurd (cc)
next_above (x ∷ y ∷ ys) zero b rises lt e = let same : y.0 ≡ b = cc in subst (λ z. is_below x.0 z ≡ true) same rises.0.0
next_above (x ∷ xs) (suc i) b rises lt e = next_above xs i b rises.2 (omega arith) e

pub closed_next_is : (A : Anchors) (i : ℕ) (b : List ℕ) → AreAnchors A → i < length A → Some b ≡ next_anchor (drop (i + 1) A) → starts_with nat_eq b (anchor_at A i) ≡ is_closed A (anchor_at A i)
closed_next_is A i b are lt e =
    let next : next_anchor (drop (suc i) A) ≡ Some b = ap next_anchor (next_place A i) ∙ sym e in
    start_begins (anchor_at A i) b (next_above A i b are.rises lt next) ∙ sym (closed_found A i are lt ∙ ap (goes_on (anchor_at A i)) (sym e))

pub closed_last : (A : Anchors) (i : ℕ) → AreAnchors A → i < length A → None ≡ next_anchor (drop (i + 1) A) → is_closed A (anchor_at A i) ≡ false
closed_last A i are lt e = closed_found A i are lt ∙ ap (goes_on (anchor_at A i)) (sym e)

reversed : (o : Ordering) → is_le o ≡ not (is_lt (ordering_reverse o))
reversed Less = refl
reversed Equal = refl
reversed Greater = refl

-- a test of anchors that aren't above the bytes
pub le_not_below : (a b : List ℕ) → is_le (bytes_cmp a b) ≡ not (is_below b a)
le_not_below a b = reversed (bytes_cmp a b) ∙ ap (λ o. not (is_lt o)) (sym (bytes_cmp-back a b))

not_below_from : (a b : List ℕ) → is_le (bytes_cmp a b) ≡ true → is_below b a ≡ false
not_below_from a b e = by (is_below b a) (sym (le_not_below a b) ∙ e)
  where
    by : (t : Bool) → not t ≡ true → t ≡ false
    by true h = absurd (true≢false (sym h))
    by false h = refl

below_from : (a b : List ℕ) → is_le (bytes_cmp a b) ≡ false → is_below b a ≡ true
below_from a b e = by (is_below b a) (sym (le_not_below a b) ∙ e)
  where
    by : (t : Bool) → not t ≡ false → t ≡ true
    by true h = refl
    by false h = absurd (true≢false h)

-- the anchors that aren't above a key come first
pub parted : (A : Anchors) (key : List ℕ) → Rises A → IsPartitionedBy (λ (y : List ℕ × ℕ). is_le (bytes_cmp y.0 key)) A
parted A key rises i j d le lt pass = dite (ℕ_discrete i j)
    (λ same. subst (λ k. is_le (bytes_cmp (get_or A k d).0 key) ≡ true) (sym same) pass)
    (λ ne.
    let below = rises_at A i j d rises (omega arith) lt in
    le_not_below (get_or A i d).0 key ∙ ap not (by (is_below key (get_or A i d).0) refl below))
  where
    by : (t : Bool) → is_below key (get_or A i d).0 ≡ t → is_below (get_or A i d).0 (get_or A j d).0 ≡ true → is_below key (get_or A i d).0 ≡ false
    by true e below = absurd (true≢false (sym (below_trans key (get_or A i d).0 (get_or A j d).0 e below) ∙ not_below_from (get_or A j d).0 key pass))
    by false e below = e

pub ended : (A : Anchors) (key : List ℕ) (end : ℕ) → AreAnchors A → end ≤ length A → IsPartitionPoint (λ (y : List ℕ × ℕ). is_le (bytes_cmp y.0 key) ≡ true) (λ (y : List ℕ × ℕ). is_le (bytes_cmp y.0 key) ≡ false) A end → IsEndFor A key end
ended A key end are within parts = record {
  some = first A end are.first parts.1;
  within = within;
  low = λ k lt. not_below_from (anchor_at A k) key (parts.0 k ([], 0) (omega arith) lt);
  high = λ k le lt. below_from (anchor_at A k) key (parts.1 k ([], 0) le lt);
}
  where
    first : (xs : Anchors) (n : ℕ) → next_anchor xs ≡ Some [] → AllWithin (λ (y : List ℕ × ℕ). is_le (bytes_cmp y.0 key) ≡ false) xs n (length xs) → 0 < n
    first [] n e all = absurd (cc)
    first (x ∷ xs) zero e all =
        let empty : x.0 ≡ [] = cc in
        absurd (true≢false (sym (below_from x.0 key (all 0 ([], 0) (omega arith) (omega arith))) ∙ (ap (is_below key) empty ∙ not_below_empty key)))
    first (x ∷ xs) (suc n) e all = omega arith

any_default : (A : Anchors) (i : ℕ) (d e : List ℕ × ℕ) → i < length A → get_or A i d ≡ get_or A i e
any_default [] i d e lt = absurd (omega arith)
any_default (x ∷ xs) zero d e lt = refl
any_default (x ∷ xs) (suc i) d e lt = any_default xs i d e (omega arith)

-- the pair that an index gives
pub pair_at : (A : Anchors) (i : ℕ) (x : List ℕ × ℕ) → i < length A → x ≡ get_or A i x → (x.0 ≡ anchor_at A i) × (x.1 ≡ leaf_at A i)
pair_at A i x lt e =
    let same : x ≡ get_or A i ([], 0) = e ∙ any_default A i x ([], 0) lt in
    (ap (λ (y : List ℕ × ℕ). y.0) same, ap (λ (y : List ℕ × ℕ). y.1) same)

pub target_is : (A B : Anchors) (k key : List ℕ) (end : ℕ) (x : List ℕ × ℕ) → A ≡ B → k ≡ key → IsEndFor A k end → x ≡ get_or B (end - 1) x → x.1 ≡ target B key
target_is A B k key end x same tied is e =
    let now : IsEndFor B key end = subst (λ C. IsEndFor C key end) same (subst (λ z. IsEndFor A z end) tied is) in
    let some : 0 < end = now.some in
    let within : end ≤ length B = now.within in
    (pair_at B (end - 1) x (omega arith) e).1 ∙ sym (target_found B key end now)

-- a leaf that isn't there isn't split
pub splits_unknown : (A : Anchors) (l : ℕ) (a : List ℕ) (r : ℕ) → place_in A l ≡ None → splits A l a r ≡ false
splits_unknown A l a r none = ap (λ s. not (has_leaf A r) && cuts s a) (place_none A l none) ∙ never (not (has_leaf A r))
  where
    never : (b : Bool) → (b && false) ≡ false
    never true = refl
    never false = refl
