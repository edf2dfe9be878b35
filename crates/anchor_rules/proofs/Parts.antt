-- The anchors around a leaf, and around two that are next to one another.
use Rattle.std.proofs.Common.{◌≡◌, ◌≢◌, ℕ, List, [], ◌∷◌, ◌++◌, Bool, true, false, eqb, not, ◌&&◌, ◌||◌, is_some, Option, Some, None, refl, sym, ap, ◌∙◌, subst, eq-eqb, ne_eqb, eqb-true, true≢false}
use mathlib.Core.Logic.{dite}
use native.Mathlib.Decide.{ℕ_discrete}
use Rattle.key_bytes.specs.Order.{is_below}
use Rattle.anchor_rules.specs.Anchors.{Anchors, Span, is_before, next_anchor, span, has_leaf, Rises, cuts, splits, with_split, adjacent, with_merge}
use Rattle.anchor_rules.proofs.Spans.{span_here, span_later, no_span}
use Rattle.anchor_rules.proofs.Edits.{split_here, split_later, merge_here, merge_later}
use Rattle.anchor_rules.proofs.Ats.{adjacent_none, first_of_two}

-- the anchors before a leaf's, and those behind it; the leaf is in neither
pub record Around (A : Anchors) (leaf : ℕ) : Type 0 where
  pub front : Anchors
  pub anchor : List ℕ
  pub back : Anchors
  pub whole : A ≡ front ++ (anchor, leaf) ∷ back
  pub not_in_front : span front leaf ≡ None
  pub not_in_back : span back leaf ≡ None

pub around : (A : Anchors) (leaf : ℕ) → Rises A → has_leaf A leaf ≡ true → Around A leaf
around [] leaf rises has = absurd (true≢false (sym has))
around (x ∷ xs) leaf rises has = dite (ℕ_discrete x.1 leaf)
    (λ same. record {
      front = [];
      anchor = x.0;
      back = xs;
      whole = ap (λ l. (x.0, l) ∷ xs) same;
      not_in_front = refl;
      not_in_back = subst (λ l. span xs l ≡ None) same rises.1;
    })
    (λ ne.
    let still : has_leaf xs leaf ≡ true = sym (ap has_some (span_later x xs leaf ne)) ∙ has in
    let rest = around xs leaf rises.2 still in
    record {
      front = x ∷ rest.front;
      anchor = rest.anchor;
      back = rest.back;
      whole = ap (λ ys. x ∷ ys) rest.whole;
      not_in_front = span_later x rest.front leaf ne ∙ rest.not_in_front;
      not_in_back = rest.not_in_back;
    })
  where
    has_some : Option Span → Bool
    has_some None = false
    has_some (Some s) = true

pub none_in_front : (xs ys : Anchors) (leaf : ℕ) → span (xs ++ ys) leaf ≡ None → span xs leaf ≡ None
none_in_front [] ys leaf none = refl
none_in_front (x ∷ xs) ys leaf none =
    let ne : x.1 ≢ leaf = λ e. no_span (sym (span_here x (xs ++ ys) leaf e) ∙ none) in
    span_later x xs leaf ne ∙ none_in_front xs ys leaf (sym (span_later x (xs ++ ys) leaf ne) ∙ none)

-- what stands behind a list that hasn't the leaf
pub span_past : (xs ys : Anchors) (leaf : ℕ) → span xs leaf ≡ None → span (xs ++ ys) leaf ≡ span ys leaf
span_past [] ys leaf none = refl
span_past (x ∷ xs) ys leaf none =
    let ne : x.1 ≢ leaf = λ e. no_span (sym (span_here x xs leaf e) ∙ none) in
    span_later x (xs ++ ys) leaf ne ∙ span_past xs ys leaf (sym (span_later x xs leaf ne) ∙ none)

pub none_behind : (xs ys : Anchors) (leaf : ℕ) → span (xs ++ ys) leaf ≡ None → span ys leaf ≡ None
none_behind xs ys leaf none = sym (span_past xs ys leaf (none_in_front xs ys leaf none)) ∙ none

pub none_later : (x : List ℕ × ℕ) (xs : Anchors) (leaf : ℕ) → span (x ∷ xs) leaf ≡ None → (x.1 ≢ leaf) × (span xs leaf ≡ None)
none_later x xs leaf none =
    let ne : x.1 ≢ leaf = λ e. no_span (sym (span_here x xs leaf e) ∙ none) in
    (ne, sym (span_later x xs leaf ne) ∙ none)

pub split_around : (front : Anchors) (x : List ℕ × ℕ) (back : Anchors) (a : List ℕ) (r : ℕ) → span front x.1 ≡ None → with_split (front ++ x ∷ back) x.1 a r ≡ front ++ x ∷ (a, r) ∷ back
split_around [] x back a r none = split_here x back x.1 a r refl
split_around (y ∷ front) x back a r none =
    let h = none_later y front x.1 none in
    split_later y (front ++ x ∷ back) x.1 a r h.0 ∙ ap (λ ys. y ∷ ys) (split_around front x back a r h.1)

pub merge_around : (front : Anchors) (x y : List ℕ × ℕ) (back : Anchors) → span front y.1 ≡ None → x.1 ≢ y.1 → with_merge (front ++ x ∷ y ∷ back) y.1 ≡ front ++ x ∷ back
merge_around [] x y back none apart = merge_later x (y ∷ back) y.1 apart ∙ ap (λ ys. x ∷ ys) (merge_here y back y.1 refl)
merge_around (z ∷ front) x y back none apart =
    let h = none_later z front y.1 none in
    merge_later z (front ++ x ∷ y ∷ back) y.1 h.0 ∙ ap (λ ys. z ∷ ys) (merge_around front x y back h.1 apart)

-- two leaves next to one another, and the anchors around them, which have neither
pub record Beside (A : Anchors) (l r : ℕ) : Type 0 where
  pub front : Anchors
  pub left : List ℕ
  pub right : List ℕ
  pub back : Anchors
  pub whole : A ≡ front ++ (left, l) ∷ (right, r) ∷ back
  pub apart : l ≢ r
  pub front_left : span front l ≡ None
  pub front_right : span front r ≡ None
  pub back_left : span back l ≡ None
  pub back_right : span back r ≡ None

pub beside : (A : Anchors) (l r : ℕ) → Rises A → adjacent A l r ≡ true → Beside A l r
beside [] l r rises next = absurd (true≢false (sym next))
beside (x ∷ []) l r rises next = absurd (true≢false (sym next))
beside (x ∷ y ∷ ys) l r rises next = dite (ℕ_discrete x.1 l)
    (λ same.
    let none : span (y ∷ ys) l ≡ None = subst (λ i. span (y ∷ ys) i ≡ None) same rises.1 in
    let is : eqb y.1 r ≡ true = sym (ap (λ b. (b && eqb y.1 r) || adjacent (y ∷ ys) l r) (eq-eqb x.1 l same) ∙ first_of_two (adjacent (y ∷ ys) l r) (eqb y.1 r) (adjacent_none (y ∷ ys) l r none)) ∙ next in
    let yr : y.1 ≡ r = eqb-true y.1 r is in
    let h = none_later y ys l none in
    record {
      front = [];
      left = x.0;
      right = y.0;
      back = ys;
      whole = ap (λ i. (x.0, i) ∷ y ∷ ys) same ∙ ap (λ i. (x.0, l) ∷ (y.0, i) ∷ ys) yr;
      apart = λ e. h.0 (yr ∙ sym e);
      front_left = refl;
      front_right = refl;
      back_left = h.1;
      back_right = subst (λ i. span ys i ≡ None) yr rises.2.1;
    })
    (λ ne.
    let still : adjacent (y ∷ ys) l r ≡ true = sym (ap (λ b. (b && eqb y.1 r) || adjacent (y ∷ ys) l r) (ne_eqb x.1 l ne)) ∙ next in
    let rest = beside (y ∷ ys) l r rises.2 still in
    let xr : x.1 ≢ r = λ e.
    let none : span (rest.front ++ (rest.left, l) ∷ (rest.right, r) ∷ rest.back) r ≡ None = ap (λ zs. span zs r) (sym rest.whole) ∙ (ap (span (y ∷ ys)) (sym e) ∙ rises.1) in
    let h = none_later (rest.left, l) ((rest.right, r) ∷ rest.back) r (none_behind rest.front ((rest.left, l) ∷ (rest.right, r) ∷ rest.back) r none) in
    (none_later (rest.right, r) rest.back r h.1).0 refl in
    record {
      front = x ∷ rest.front;
      left = rest.left;
      right = rest.right;
      back = rest.back;
      whole = ap (λ zs. x ∷ zs) rest.whole;
      apart = rest.apart;
      front_left = span_later x rest.front l ne ∙ rest.front_left;
      front_right = span_later x rest.front r xr ∙ rest.front_right;
      back_left = rest.back_left;
      back_right = rest.back_right;
    })

-- the spans of two leaves next to one another meet
pub record Meet (A : Anchors) (l r : ℕ) : Type 0 where
  pub low : List ℕ
  pub middle : List ℕ
  pub high : Option (List ℕ)
  pub left : span A l ≡ Some (low, Some middle)
  pub right : span A r ≡ Some (middle, high)
  pub apart : l ≢ r

pub meet : (A : Anchors) (l r : ℕ) → Rises A → adjacent A l r ≡ true → Meet A l r
meet A l r rises next =
    let w = beside A l r rises next in
    record {
      low = w.left;
      middle = w.right;
      high = next_anchor w.back;
      left = ap (λ zs. span zs l) w.whole ∙ (span_past w.front ((w.left, l) ∷ (w.right, r) ∷ w.back) l w.front_left ∙ span_here (w.left, l) ((w.right, r) ∷ w.back) l refl);
      right = ap (λ zs. span zs r) w.whole ∙ (span_past w.front ((w.left, l) ∷ (w.right, r) ∷ w.back) r w.front_right ∙ (span_later (w.left, l) ((w.right, r) ∷ w.back) r w.apart ∙ span_here (w.right, r) w.back r refl));
      apart = w.apart;
    }

-- what a cut of a leaf's span by a new leaf's anchor says
pub record Cut (A : Anchors) (l : ℕ) (a : List ℕ) (r : ℕ) : Type 0 where
  pub low : List ℕ
  pub high : Option (List ℕ)
  pub is : span A l ≡ Some (low, high)
  pub new : span A r ≡ None
  pub above : is_below low a ≡ true
  pub before : is_before high a ≡ true

pub cut : (A : Anchors) (l : ℕ) (a : List ℕ) (r : ℕ) → splits A l a r ≡ true → Cut A l a r
cut A l a r can = by (span A l) (span A r) refl refl can
  where
    and_both : (x y : Bool) → (x && y) ≡ true → (x ≡ true) × (y ≡ true)
    and_both true y e = (refl, e)
    and_both false y e = absurd (true≢false (sym e))

    by : (s t : Option Span) → span A l ≡ s → span A r ≡ t → (not (is_some t) && cuts s a) ≡ true → Cut A l a r
    by s (Some t) e f can = absurd (true≢false (sym can))
    by None None e f can = absurd (true≢false (sym can))
    by (Some s) None e f can =
        let h = and_both (is_below s.0 a) (is_before s.1 a) can in
        record { low = s.0; high = s.1; is = e; new = f; above = h.0; before = h.1 }
