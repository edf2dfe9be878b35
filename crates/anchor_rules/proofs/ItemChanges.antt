-- The items after an anchor was put in, and after one was taken out.
use Rattle.std.proofs.Common.{◌≡◌, ◌≢◌, ℕ, ◌≤◌, List, [], ◌∷◌, ◌++◌, length, take, Bool, true, false, cond, Option, Some, None, refl, sym, ap, ◌∙◌, subst, arith, append_assoc, eq-eqb, ne_eqb, true≢false}
use Rattle.std.specs.Prelude.{◌||◌, ◌&&◌, not, max, nat_le, if◌then◌else◌}
use Rattle.std.specs.List.{AllByRecursion, filter}
use mathlib.Core.Bool.{false≢true}
use mathlib.Core.Logic.{dite}
use native.Mathlib.Decide.{ℕ_discrete}
use Rattle.std.proofs.lemmas.Bool.Decides.{nat_tests}
use Rattle.std.proofs.lemmas.List.Elements.{filter-append}
use Rattle.key_bytes.specs.Common.{lcp}
use Rattle.key_bytes.specs.Order.{is_below, is_same}
use Rattle.key_bytes.proofs.Orders.{below_trans, below_not_same, below_not_same_back, not_below_itself, same_is}
use Rattle.key_bytes.proofs.Conditions.{or_false, some_same}
use Rattle.anchor_rules.specs.Anchors.{Anchors, Span, is_before, in_span, span, next_anchor, Rises, AreAnchors, with_split, with_merge}
use Rattle.anchor_rules.specs.Items.{Item, begins, begins_end, under, is_prefix, is_anchor_of, first_leaf, last_leaf, item, leaf_after, shared}
use Rattle.anchor_rules.proofs.Prefixes.{begins_take, begins_take_lcp, lcp_sym}
use Rattle.anchor_rules.proofs.ItemParts.{all_parts, rises_back, any_only, filter_none, filter_first, filter_drop, IsItem, item_is, some_item, item-none, leaf_apart, span_at}
use Rattle.anchor_rules.proofs.ItemsAround.{last_leaf-back, item_other, prefix_old, item_known, item_new, none_front, none_back}
use Rattle.anchor_rules.proofs.Spans.{all_weaker, span_here, span_later, disjoint}

-- the item of a prefix of a new anchor that had one before
abbrev pub grown : (p lo : List ℕ) (hi : Option (List ℕ)) (a : List ℕ) (leaf : ℕ) → Item → Item
grown p lo hi a leaf it = record {
  is_anchor = it.is_anchor || is_same p a;
  leftmost = if begins p lo then it.leftmost else leaf;
  rightmost = if begins_end p hi then it.rightmost else leaf;
  child = λ c. it.child c || begins (p ++ c ∷ []) a;
}

-- and of one that had none
abbrev pub fresh : (p a : List ℕ) (leaf : ℕ) → Item
fresh p a leaf = record {
  is_anchor = is_same p a;
  leftmost = leaf;
  rightmost = leaf;
  child = λ c. begins (p ++ c ∷ []) a;
}

-- the item of a prefix of an anchor that was taken out, where a neighbour begins with it too
abbrev pub shrunk : (p lo : List ℕ) (hi : Option (List ℕ)) (a : List ℕ) (left after : ℕ) → Item → Item
shrunk p lo hi a left after it = record {
  is_anchor = it.is_anchor && not (is_same p a);
  leftmost = if begins p lo then it.leftmost else after;
  rightmost = if begins_end p hi then it.rightmost else left;
  child = λ c. if begins (p ++ c ∷ []) a then begins (p ++ c ∷ []) lo || begins_end (p ++ c ∷ []) hi else it.child c;
}

split_here : (x : List ℕ × ℕ) (xs : Anchors) (l : ℕ) (a : List ℕ) (r : ℕ) → x.1 ≡ l → with_split (x ∷ xs) l a r ≡ x ∷ (a, r) ∷ xs
split_here x xs l a r e = ap (λ (b : Bool). cond b (x ∷ (a, r) ∷ xs) (x ∷ with_split xs l a r)) (eq-eqb x.1 l e)

split_later : (x : List ℕ × ℕ) (xs : Anchors) (l : ℕ) (a : List ℕ) (r : ℕ) → x.1 ≢ l → with_split (x ∷ xs) l a r ≡ x ∷ with_split xs l a r
split_later x xs l a r ne = ap (λ (b : Bool). cond b (x ∷ (a, r) ∷ xs) (x ∷ with_split xs l a r)) (ne_eqb x.1 l ne)

merge_here : (x : List ℕ × ℕ) (xs : Anchors) (r : ℕ) → x.1 ≡ r → with_merge (x ∷ xs) r ≡ xs
merge_here x xs r e = ap (λ (b : Bool). cond b xs (x ∷ with_merge xs r)) (eq-eqb x.1 r e)

merge_later : (x : List ℕ × ℕ) (xs : Anchors) (r : ℕ) → x.1 ≢ r → with_merge (x ∷ xs) r ≡ x ∷ with_merge xs r
merge_later x xs r ne = ap (λ (b : Bool). cond b xs (x ∷ with_merge xs r)) (ne_eqb x.1 r ne)

-- where a leaf stands
pub record Place (A : Anchors) (left : ℕ) (lo : List ℕ) (hi : Option (List ℕ)) : Type 0 where
  pub front : Anchors
  pub back : Anchors
  pub whole : A ≡ front ++ (lo, left) ∷ back
  pub next : next_anchor back ≡ hi
  pub split : (a : List ℕ) (leaf : ℕ) → with_split A left a leaf ≡ front ++ (lo, left) ∷ (a, leaf) ∷ back

abbrev start_of : List ℕ → Option Span → List ℕ
start_of d None = d
start_of d (Some s) = s.0

abbrev end_of : Option Span → Option (List ℕ)
end_of None = None
end_of (Some s) = s.1

pub place_of : (A : Anchors) (left : ℕ) (lo : List ℕ) (hi : Option (List ℕ)) → span A left ≡ Some (lo, hi) → Place A left lo hi
place_of [] left lo hi e = absurd (cc)
place_of (x ∷ xs) left lo hi e = dite (ℕ_discrete x.1 left)
    (λ same.
    let s : Some (x.0, next_anchor xs) ≡ Some (lo, hi) = sym (span_here x xs left same) ∙ e in
    let first : x.0 ≡ lo = ap (start_of lo) s in
    let is : x ≡ (lo, left) = λ i. (first i, same i) in
    record { front = []; back = xs; whole = ap (λ (q : List ℕ × ℕ). q ∷ xs) is; next = ap end_of s; split = λ a leaf. split_here x xs left a leaf same ∙ ap (λ (q : List ℕ × ℕ). q ∷ (a, leaf) ∷ xs) is })
    (λ ne.
    let r = place_of xs left lo hi (sym (span_later x xs left ne) ∙ e) in
    record { front = x ∷ r.front; back = r.back; whole = ap (λ (l : Anchors). x ∷ l) r.whole; next = r.next; split = λ a leaf. split_later x xs left a leaf ne ∙ ap (λ (l : Anchors). x ∷ l) (r.split a leaf) })

pub rises_front : (front : Anchors) (x : List ℕ × ℕ) (back : Anchors) → Rises (front ++ x ∷ back) → AllByRecursion (λ (q : List ℕ × ℕ). is_below q.0 x.0 ≡ true) front
rises_front [] x back r = tt
rises_front (y ∷ front) x back r = ((all_parts (λ (q : List ℕ × ℕ). is_below y.0 q.0 ≡ true) front (x ∷ back) r.0).1.0, rises_front front x back r.2)

-- an anchor is before the next one
next_after : (q : List ℕ × ℕ) (back : Anchors) → Rises (q ∷ back) → is_before (next_anchor back) q.0 ≡ true
next_after q [] r = refl
next_after q (h ∷ back) r = r.0.0

pub span_before : (A : Anchors) (leaf : ℕ) (a : List ℕ) (hi : Option (List ℕ)) → Rises A → span A leaf ≡ Some (a, hi) → is_before hi a ≡ true
span_before A leaf a hi rises e =
    let h = place_of A leaf a hi e in
    ap (λ (z : Option (List ℕ)). is_before z a) (sym h.next) ∙ next_after (a, leaf) h.back (rises_back h.front ((a, leaf) ∷ h.back) (subst Rises h.whole rises))

-- a neighbour begins with the first bytes of an anchor exactly as far as they are shared
pub neighbours : (lo a : List ℕ) (hi : Option (List ℕ)) (n : ℕ) → n ≤ length a → (begins (take n a) lo || begins_end (take n a) hi) ≡ nat_le n (shared lo a hi)
neighbours lo a None n le = only (begins (take n a) lo) ∙ (begins_take_lcp n a lo le ∙ ap (nat_le n) (lcp_sym a lo))
  where
    only : (x : Bool) → (x || false) ≡ x
    only true = refl
    only false = refl
neighbours lo a (Some h) n le = ap (λ (x : Bool). x || begins (take n a) h) (begins_take_lcp n a lo le ∙ ap (nat_le n) (lcp_sym a lo)) ∙ (ap (λ (x : Bool). nat_le n (lcp lo a) || x) (begins_take_lcp n a h le) ∙ either n (lcp lo a) (lcp a h))
  where
    either : (n x y : ℕ) → (nat_le n x || nat_le n y) ≡ nat_le n (max x y)
    either n x y = grind (arith, nat_tests)

-- a new anchor in a leaf's span
module _ (A : Anchors) (left : ℕ) (lo : List ℕ) (hi : Option (List ℕ)) (a : List ℕ) (leaf : ℕ) (rises : Rises A) (at : span A left ≡ Some (lo, hi)) (above : is_below lo a ≡ true) (before : is_before hi a ≡ true) where
  here : Place A left lo hi
  here = place_of A left lo hi at

  front_low : AllByRecursion (λ (q : List ℕ × ℕ). is_below q.0 lo ≡ true) here.front
  front_low = rises_front here.front (lo, left) here.back (subst Rises here.whole rises)

  backs : Rises here.back
  backs = (rises_back here.front ((lo, left) ∷ here.back) (subst Rises here.whole rises)).2

  next_before : is_before (next_anchor here.back) a ≡ true
  next_before = ap (λ (e : Option (List ℕ)). is_before e a) here.next ∙ before

  pub split_other : (p : List ℕ) → begins p a ≡ false → item (with_split A left a leaf) p ≡ item A p
  split_other p e = ap (λ (l : Anchors). item l p) (here.split a leaf) ∙ (item_other here.front lo left a leaf here.back front_low backs above next_before p e ∙ ap (λ (l : Anchors). item l p) (sym here.whole))

  pub split_known : (p : List ℕ) (it : Item) → begins p a ≡ true → item A p ≡ Some it → item (with_split A left a leaf) p ≡ Some (grown p lo hi a leaf it)
  split_known p it b known =
      ap (λ (l : Anchors). item l p) (here.split a leaf)
      ∙ (item_known here.front lo left a leaf here.back front_low backs above next_before p it b (ap (λ (l : Anchors). item l p) (sym here.whole) ∙ known)
      ∙ ap (λ (e : Option (List ℕ)). Some (grown p lo e a leaf it)) here.next)

  pub split_new : (p : List ℕ) → begins p a ≡ true → item A p ≡ None → item (with_split A left a leaf) p ≡ Some (fresh p a leaf)
  split_new p b none = ap (λ (l : Anchors). item l p) (here.split a leaf) ∙ item_new here.front lo left a leaf here.back front_low backs above next_before p b (ap (λ (l : Anchors). item l p) (sym here.whole) ∙ none)

  pub split_prefix : (p : List ℕ) → begins p a ≡ true → is_prefix A p ≡ (begins p lo || begins_end p hi)
  split_prefix p b = ap (λ (l : Anchors). is_prefix l p) here.whole ∙ (prefix_old here.front lo left a leaf here.back front_low backs above next_before p b ∙ ap (λ (e : Option (List ℕ)). begins p lo || begins_end p e) here.next)

  -- by lengths
  pub split_shared : (n : ℕ) → n ≤ length a → is_prefix A (take n a) ≡ nat_le n (shared lo a hi)
  split_shared n le = split_prefix (take n a) (begins_take n a) ∙ neighbours lo a hi n le

-- where two neighbours stand
pub record Gap (A : Anchors) (left right : ℕ) (lo a : List ℕ) (hi : Option (List ℕ)) : Type 0 where
  pub front : Anchors
  pub back : Anchors
  pub whole : A ≡ front ++ (lo, left) ∷ (a, right) ∷ back
  pub merged : with_merge A right ≡ front ++ (lo, left) ∷ back
  pub next : next_anchor back ≡ hi

merge_at : (front : Anchors) (a : List ℕ) (right : ℕ) (back : Anchors) → Rises (front ++ (a, right) ∷ back) → with_merge (front ++ (a, right) ∷ back) right ≡ front ++ back
merge_at [] a right back r = merge_here (a, right) back right refl
merge_at (x ∷ front) a right back r = merge_later x (front ++ (a, right) ∷ back) right (leaf_apart front x a right back r) ∙ ap (λ (l : Anchors). x ∷ l) (merge_at front a right back r.2)

pub leaf_after_at : (front : Anchors) (a : List ℕ) (right : ℕ) (back : Anchors) → Rises (front ++ (a, right) ∷ back) → leaf_after (front ++ (a, right) ∷ back) right ≡ first_leaf back
leaf_after_at [] a right back r = ap (λ (b : Bool). cond b (first_leaf back) (leaf_after back right)) (eq-eqb right right refl)
leaf_after_at (x ∷ front) a right back r = ap (λ (b : Bool). cond b (first_leaf (front ++ (a, right) ∷ back)) (leaf_after (front ++ (a, right) ∷ back) right)) (ne_eqb x.1 right (leaf_apart front x a right back r)) ∙ leaf_after_at front a right back r.2

inside : (a : List ℕ) (hi : Option (List ℕ)) → is_before hi a ≡ true → in_span (a, hi) a ≡ true
inside a hi before = ap (λ (b : Bool). not b && is_before hi a) (not_below_itself a) ∙ before

pub gap_of : (A : Anchors) (left right : ℕ) (lo a : List ℕ) (hi : Option (List ℕ)) → AreAnchors A → span A left ≡ Some (lo, Some a) → span A right ≡ Some (a, hi) → Gap A left right lo a hi
gap_of A left right lo a hi are at gone = go there.back there.whole there.next
  where
    there : Place A left lo (Some a)
    there = place_of A left lo (Some a) at

    go : (b : Anchors) → A ≡ there.front ++ (lo, left) ∷ b → next_anchor b ≡ Some a → Gap A left right lo a hi
    go [] w n = absurd (cc)
    go (q ∷ b) w n =
        let first : q.0 ≡ a = some_same q.0 a n in
        let w' : A ≡ (there.front ++ (lo, left) ∷ []) ++ (a, q.1) ∷ b = w ∙ (ap (λ (z : List ℕ). there.front ++ (lo, left) ∷ (z, q.1) ∷ b) first ∙ sym (append_assoc there.front ((lo, left) ∷ []) ((a, q.1) ∷ b))) in
        let s : span A q.1 ≡ Some (a, next_anchor b) = ap (λ (l : Anchors). span l q.1) w' ∙ span_at (there.front ++ (lo, left) ∷ []) a q.1 b (subst Rises w' are.rises) in
        let same : q.1 ≡ right = disjoint A are q.1 right a (a, next_anchor b) (a, hi) s gone (inside a (next_anchor b) (span_before A q.1 a (next_anchor b) are.rises s)) (inside a hi (span_before A right a hi are.rises gone)) in
        let ends : Some (a, next_anchor b) ≡ Some (a, hi) = sym s ∙ (ap (span A) same ∙ gone) in
        let w'' : A ≡ (there.front ++ (lo, left) ∷ []) ++ (a, right) ∷ b = w' ∙ ap (λ (n : ℕ). (there.front ++ (lo, left) ∷ []) ++ (a, n) ∷ b) same in
        record {
          front = there.front;
          back = b;
          whole = w'' ∙ append_assoc there.front ((lo, left) ∷ []) ((a, right) ∷ b);
          merged = ap (λ (l : Anchors). with_merge l right) w'' ∙ (merge_at (there.front ++ (lo, left) ∷ []) a right b (subst Rises w'' are.rises) ∙ append_assoc there.front ((lo, left) ∷ []) b);
          next = ap end_of ends;
        }

and_not : (x s : Bool) → (s ≡ true → x ≡ false) → x ≡ ((x || s) && not s)
and_not true true h = h refl
and_not true false h = refl
and_not false true h = refl
and_not false false h = refl

or_right : (x y : Bool) → (x || y) ≡ true → x ≡ false → y ≡ true
or_right true y h e = absurd (true≢false e)
or_right false y h e = h

or_left : (x y : Bool) → (x || y) ≡ true → y ≡ false → x ≡ true
or_left true y h e = refl
or_left false y h e = absurd (false≢true (sym e ∙ h))

some_item_is : (x y : Item) → Some x ≡ Some y → x ≡ y
some_item_is x y e = cc

-- an anchor is taken out from behind another
module _ (A : Anchors) (left right : ℕ) (lo a : List ℕ) (hi : Option (List ℕ)) (are : AreAnchors A) (at : span A left ≡ Some (lo, Some a)) (gone : span A right ≡ Some (a, hi)) where
  gap : Gap A left right lo a hi
  gap = gap_of A left right lo a hi are at gone

  rises_new : Rises (gap.front ++ (lo, left) ∷ (a, right) ∷ gap.back)
  rises_new = subst Rises gap.whole are.rises

  behind_front : Rises ((lo, left) ∷ (a, right) ∷ gap.back)
  behind_front = rises_back gap.front ((lo, left) ∷ (a, right) ∷ gap.back) rises_new

  fronts : AllByRecursion (λ (q : List ℕ × ℕ). is_below q.0 lo ≡ true) gap.front
  fronts = rises_front gap.front (lo, left) ((a, right) ∷ gap.back) rises_new

  above : is_below lo a ≡ true
  above = behind_front.0.0

  before : is_before (next_anchor gap.back) a ≡ true
  before = next_after (a, right) gap.back behind_front.2

  pub merge_other : (p : List ℕ) → begins p a ≡ false → item (with_merge A right) p ≡ item A p
  merge_other p e = ap (λ (l : Anchors). item l p) gap.merged ∙ (sym (item_other gap.front lo left a right gap.back fronts behind_front.2.2 above before p e) ∙ ap (λ (l : Anchors). item l p) (sym gap.whole))

  prefix_merged : (p : List ℕ) → begins p a ≡ true → is_prefix (gap.front ++ (lo, left) ∷ gap.back) p ≡ (begins p lo || begins_end p (next_anchor gap.back))
  prefix_merged p b = prefix_old gap.front lo left a right gap.back fronts behind_front.2.2 above before p b

  pub merge_prefix : (p : List ℕ) → begins p a ≡ true → is_prefix (with_merge A right) p ≡ (begins p lo || begins_end p hi)
  merge_prefix p b = ap (λ (l : Anchors). is_prefix l p) gap.merged ∙ (prefix_merged p b ∙ ap (λ (e : Option (List ℕ)). begins p lo || begins_end p e) gap.next)

  pub merge_shared : (n : ℕ) → n ≤ length a → is_prefix (with_merge A right) (take n a) ≡ nat_le n (shared lo a hi)
  merge_shared n le = merge_prefix (take n a) (begins_take n a) ∙ neighbours lo a hi n le

  pub merge_gone : (p : List ℕ) → begins p a ≡ true → (begins p lo || begins_end p hi) ≡ false → item (with_merge A right) p ≡ None
  merge_gone p b none = item-none (with_merge A right) p (merge_prefix p b ∙ none)

  -- the anchor itself isn't one any more
  not_anchor : (p : List ℕ) → is_same p a ≡ true → is_anchor_of (gap.front ++ (lo, left) ∷ gap.back) p ≡ false
  not_anchor p s =
      let f : List ℕ × ℕ → Bool = λ q. is_same p q.0 in
      let is = same_is p a s in
      let front_not = all_weaker _ (λ (q : List ℕ × ℕ). f q ≡ false) (λ q below. ap (λ (z : List ℕ). is_same z q.0) is ∙ below_not_same_back q.0 a (below_trans q.0 lo a below above)) gap.front fronts in
      let back_not = all_weaker _ (λ (q : List ℕ × ℕ). f q ≡ false) (λ q over. ap (λ (z : List ℕ). is_same z q.0) is ∙ below_not_same a q.0 over) gap.back behind_front.2.0 in
      any_only f gap.front (lo, left) gap.back front_not back_not ∙ (ap (λ (z : List ℕ). is_same z lo) is ∙ below_not_same_back lo a above)

  -- the first leaf is the next one, where lo doesn't begin with it
  first_behind : (p : List ℕ) → begins p a ≡ true → begins p lo ≡ false → begins_end p (next_anchor gap.back) ≡ true → first_leaf (under (gap.front ++ (lo, left) ∷ gap.back) p) ≡ first_leaf gap.back
  first_behind p b e some =
      let f : List ℕ × ℕ → Bool = λ q. begins p q.0 in
      ap first_leaf (filter-append f gap.front ((lo, left) ∷ gap.back) ∙ (ap (λ (l : Anchors). l ++ filter f ((lo, left) ∷ gap.back)) (filter_none f gap.front (none_front gap.front lo left a right gap.back fronts behind_front.2.2 above before p b e)) ∙ filter_drop f (lo, left) gap.back e)) ∙ head gap.back some
    where
      head : (l : Anchors) → begins_end p (next_anchor l) ≡ true → first_leaf (under l p) ≡ first_leaf l
      head [] h = absurd (false≢true h)
      head (q ∷ l) h = ap first_leaf (filter_first (λ (q : List ℕ × ℕ). begins p q.0) q l h)

  -- the last leaf is the left one, where the next one doesn't begin with it
  last_before : (p : List ℕ) → begins p a ≡ true → begins p lo ≡ true → begins_end p (next_anchor gap.back) ≡ false → last_leaf (under (gap.front ++ (lo, left) ∷ gap.back) p) ≡ left
  last_before p b e none =
      let f : List ℕ × ℕ → Bool = λ q. begins p q.0 in
      ap last_leaf (filter-append f gap.front ((lo, left) ∷ gap.back) ∙ ap (λ (l : Anchors). filter f gap.front ++ l) (filter_first f (lo, left) gap.back e ∙ ap (λ (l : Anchors). (lo, left) ∷ l) (filter_none f gap.back (none_back gap.front lo left a right gap.back fronts behind_front.2.2 above before p b none))))
      ∙ last_leaf-back (filter f gap.front) (lo, left) []

  after_is : leaf_after A right ≡ first_leaf gap.back
  after_is = ap (λ (l : Anchors). leaf_after l right) (gap.whole ∙ sym (append_assoc gap.front ((lo, left) ∷ []) ((a, right) ∷ gap.back))) ∙ leaf_after_at (gap.front ++ (lo, left) ∷ []) a right gap.back (subst Rises (sym (append_assoc gap.front ((lo, left) ∷ []) ((a, right) ∷ gap.back))) rises_new)

  shrinks : (p : List ℕ) (it was : Item) → begins p a ≡ true → (begins p lo || begins_end p (next_anchor gap.back)) ≡ true → IsItem (gap.front ++ (lo, left) ∷ gap.back) p it → was ≡ grown p lo (next_anchor gap.back) a right it → it ≡ shrunk p lo (next_anchor gap.back) a left (leaf_after A right) was
  shrinks p it was b some is same = λ i. record { is_anchor = anchor i; leftmost = first i; rightmost = last i; child = λ c. child c i }
    where
      anchor : it.is_anchor ≡ (was.is_anchor && not (is_same p a))
      anchor = and_not it.is_anchor (is_same p a) (λ s. is.anchor ∙ not_anchor p s) ∙ ap (λ (w : Item). w.is_anchor && not (is_same p a)) (sym same)

      first : it.leftmost ≡ cond (begins p lo) was.leftmost (leaf_after A right)
      first = elim (begins p lo) as (λ (s : Bool). begins p lo ≡ s → it.leftmost ≡ cond s was.leftmost (leaf_after A right)) [
        | true ↦ λ e. sym (ap (λ (w : Item). w.leftmost) same ∙ ap (λ (s : Bool). cond s it.leftmost right) e)
        | false ↦ λ e. is.first ∙ (first_behind p b e (or_right (begins p lo) (begins_end p (next_anchor gap.back)) some e) ∙ sym after_is)
      ] refl

      last : it.rightmost ≡ cond (begins_end p (next_anchor gap.back)) was.rightmost left
      last = elim (begins_end p (next_anchor gap.back)) as (λ (s : Bool). begins_end p (next_anchor gap.back) ≡ s → it.rightmost ≡ cond s was.rightmost left) [
        | true ↦ λ e. sym (ap (λ (w : Item). w.rightmost) same ∙ ap (λ (s : Bool). cond s it.rightmost right) e)
        | false ↦ λ e. is.last ∙ last_before p b (or_left (begins p lo) (begins_end p (next_anchor gap.back)) some e) e
      ] refl

      child : (c : ℕ) → it.child c ≡ cond (begins (p ++ c ∷ []) a) (begins (p ++ c ∷ []) lo || begins_end (p ++ c ∷ []) (next_anchor gap.back)) (was.child c)
      child c = elim (begins (p ++ c ∷ []) a) as (λ (s : Bool). begins (p ++ c ∷ []) a ≡ s → it.child c ≡ cond s (begins (p ++ c ∷ []) lo || begins_end (p ++ c ∷ []) (next_anchor gap.back)) (was.child c)) [
        | true ↦ λ e. is.children c ∙ prefix_merged (p ++ c ∷ []) e
        | false ↦ λ e. sym (ap (λ (w : Item). w.child c) same ∙ (ap (λ (s : Bool). it.child c || s) e ∙ or_false (it.child c)))
      ] refl

  pub merge_known : (p : List ℕ) (it : Item) → begins p a ≡ true → (begins p lo || begins_end p hi) ≡ true → item A p ≡ Some it → item (with_merge A right) p ≡ Some (shrunk p lo hi a left (leaf_after A right) it)
  merge_known p it b some known =
      let some' : (begins p lo || begins_end p (next_anchor gap.back)) ≡ true = ap (λ (e : Option (List ℕ)). begins p lo || begins_end p e) gap.next ∙ some in
      let o = some_item (gap.front ++ (lo, left) ∷ gap.back) p (prefix_merged p b ∙ some') in
      let grew = item_known gap.front lo left a right gap.back fronts behind_front.2.2 above before p o.0 b o.1 in
      let same : it ≡ grown p lo (next_anchor gap.back) a right o.0 = some_item_is it (grown p lo (next_anchor gap.back) a right o.0) (sym known ∙ (ap (λ (l : Anchors). item l p) gap.whole ∙ grew)) in
      ap (λ (l : Anchors). item l p) gap.merged ∙ (o.1 ∙ (ap (λ (w : Item). Some w) (shrinks p o.0 it b some' (item_is (gap.front ++ (lo, left) ∷ gap.back) p o.0 o.1) same) ∙ ap (λ (e : Option (List ℕ)). Some (shrunk p lo e a left (leaf_after A right) it)) gap.next))
