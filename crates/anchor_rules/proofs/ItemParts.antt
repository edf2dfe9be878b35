-- What an item tells of the anchors, and which prefixes have one.
use Rattle.std.proofs.Common.{◌≡◌, ◌≢◌, ℕ, ◌<◌, ◌≤◌, List, [], ◌∷◌, ◌++◌, length, take, Bool, true, false, cond, zero, suc, Some, None, refl, sym, ap, ◌∙◌, subst, arith, length-append, true≢false}
use Rattle.std.specs.Prelude.{◌||◌, ◌==◌}
use Rattle.std.specs.List.{AllByRecursion, filter, list_any}
use mathlib.Core.Bool.{false≢true}
use Rattle.anchor_rules.specs.Anchors.{Anchors, Span, span, next_anchor, Rises, AreAnchors}
use Rattle.anchor_rules.specs.Items.{Item, begins, under, is_prefix, is_anchor_of, first_leaf, last_leaf, item, longest_anchor}
use Rattle.anchor_rules.proofs.Prefixes.{begins_is, begins_shorter}
use Rattle.anchor_rules.proofs.Spans.{span_here, span_later, no_span}

-- what holds of each element of a list
pub all_parts : {X : Type 0} (P : X → Type 0) (xs ys : List X) → AllByRecursion P (xs ++ ys) → AllByRecursion P xs × AllByRecursion P ys
all_parts P [] ys all = (tt, all)
all_parts P (x ∷ xs) ys all = let rest = all_parts P xs ys all.1 in ((all.0, rest.0), rest.1)

pub all_both : {X : Type 0} (P Q R : X → Type 0) → ((x : X) → P x → Q x → R x) → (xs : List X) → AllByRecursion P xs → AllByRecursion Q xs → AllByRecursion R xs
all_both P Q R both [] p q = tt
all_both P Q R both (x ∷ xs) p q = (both x p.0 q.0, all_both P Q R both xs p.1 q.1)

pub rises_back : (front back : Anchors) → Rises (front ++ back) → Rises back
rises_back [] back r = r
rises_back (q ∷ front) back r = rises_back front back r.2

pub or_none : (x y : Bool) → (x || y) ≡ false → (x ≡ false) × (y ≡ false)
or_none true y h = absurd (true≢false h)
or_none false y h = (refl, h)

pub any_none : {X : Type 0} (f : X → Bool) (xs : List X) → list_any f xs ≡ false → AllByRecursion (λ (x : X). f x ≡ false) xs
any_none f [] h = tt
any_none f (x ∷ xs) h = let both = or_none (f x) (list_any f xs) h in (both.0, any_none f xs both.1)

pub none_any : {X : Type 0} (f : X → Bool) (xs : List X) → AllByRecursion (λ (x : X). f x ≡ false) xs → list_any f xs ≡ false
none_any f [] all = refl
none_any f (x ∷ xs) all = ap (λ (b : Bool). b || list_any f xs) all.0 ∙ none_any f xs all.1

-- a test that one element in the middle passes
pub any_here : {X : Type 0} (f : X → Bool) (front : List X) (x : X) (back : List X) → f x ≡ true → list_any f (front ++ x ∷ back) ≡ true
any_here f [] x back h = ap (λ (b : Bool). b || list_any f back) h
any_here f (y ∷ front) x back h = ap (λ (b : Bool). f y || b) (any_here f front x back h) ∙ last (f y)
  where
    last : (b : Bool) → (b || true) ≡ true
    last true = refl
    last false = refl

-- a test that only the one in the middle can pass
pub any_only : {X : Type 0} (f : X → Bool) (front : List X) (x : X) (back : List X) → AllByRecursion (λ (y : X). f y ≡ false) front → AllByRecursion (λ (y : X). f y ≡ false) back → list_any f (front ++ x ∷ back) ≡ f x
any_only f [] x back tt after = ap (λ (b : Bool). f x || b) (none_any f back after) ∙ last (f x)
  where
    last : (b : Bool) → (b || false) ≡ b
    last true = refl
    last false = refl
any_only f (y ∷ front) x back all after = ap (λ (b : Bool). b || list_any f (front ++ x ∷ back)) all.0 ∙ any_only f front x back all.1 after

pub filter_none : {X : Type 0} (f : X → Bool) (xs : List X) → AllByRecursion (λ (x : X). f x ≡ false) xs → filter f xs ≡ []
filter_none f [] n = refl
filter_none f (x ∷ xs) n = ap (λ (t : Bool). cond t (x ∷ filter f xs) (filter f xs)) n.0 ∙ filter_none f xs n.1

pub filter_first : {X : Type 0} (f : X → Bool) (x : X) (xs : List X) → f x ≡ true → filter f (x ∷ xs) ≡ x ∷ filter f xs
filter_first f x xs e = ap (λ (t : Bool). cond t (x ∷ filter f xs) (filter f xs)) e

pub filter_drop : {X : Type 0} (f : X → Bool) (x : X) (xs : List X) → f x ≡ false → filter f (x ∷ xs) ≡ filter f xs
filter_drop f x xs e = ap (λ (t : Bool). cond t (x ∷ filter f xs) (filter f xs)) e

-- what an item tells, part by part
pub record IsItem (A : Anchors) (p : List ℕ) (it : Item) : Type 0 where
  pub prefix : is_prefix A p ≡ true
  pub anchor : it.is_anchor ≡ is_anchor_of A p
  pub first : it.leftmost ≡ first_leaf (under A p)
  pub last : it.rightmost ≡ last_leaf (under A p)
  pub children : (c : ℕ) → it.child c ≡ is_prefix A (p ++ c ∷ [])

abbrev whole_item : Anchors → List ℕ → Item
whole_item A p = record { is_anchor = is_anchor_of A p; leftmost = first_leaf (under A p); rightmost = last_leaf (under A p); child = λ c. is_prefix A (p ++ c ∷ []) }

some_is : (x y : Item) → Some x ≡ Some y → y ≡ x
some_is x y e = cc

pub item_is : (A : Anchors) (p : List ℕ) (it : Item) → item A p ≡ Some it → IsItem A p it
unfolding item
item_is A p it h = elim (is_prefix A p) as (λ (s : Bool). is_prefix A p ≡ s → cond s (Some (whole_item A p)) None ≡ Some it → IsItem A p it) [
  | true ↦ λ e m. let same = some_is (whole_item A p) it m in record {
    prefix = e;
    anchor = ap (λ (i : Item). i.is_anchor) same;
    first = ap (λ (i : Item). i.leftmost) same;
    last = ap (λ (i : Item). i.rightmost) same;
    children = λ c. ap (λ (i : Item). i.child c) same;
  }
  | false ↦ λ e m. absurd (cc)
] refl h

-- where it has none, no anchor begins with it
pub no_item : (A : Anchors) (p : List ℕ) → item A p ≡ None → is_prefix A p ≡ false
unfolding item
no_item A p h = elim (is_prefix A p) as (λ (s : Bool). cond s (Some (whole_item A p)) None ≡ None → s ≡ false) [
  | true ↦ λ m. absurd (cc)
  | false ↦ λ m. refl
] h

pub item-none : (A : Anchors) (p : List ℕ) → is_prefix A p ≡ false → item A p ≡ None
unfolding item
item-none A p h = ap (λ (s : Bool). cond s (Some (whole_item A p)) None) h

pub some_item : (A : Anchors) (p : List ℕ) → is_prefix A p ≡ true → (it : Item) × (item A p ≡ Some it)
unfolding item
some_item A p h = (whole_item A p, ap (λ (s : Bool). cond s (Some (whole_item A p)) None) h)

-- what begins longer begins shorter
pub prefix_shorter : (A : Anchors) (p t : List ℕ) → is_prefix A p ≡ false → is_prefix A (p ++ t) ≡ false
prefix_shorter [] p t h = refl
prefix_shorter (q ∷ A) p t h =
    let both = or_none (begins p q.0) (is_prefix A p) h in
    ap (λ (b : Bool). b || is_prefix A (p ++ t)) (not_longer (begins (p ++ t) q.0) refl both.0) ∙ prefix_shorter A p t both.1
  where
    not_longer : (s : Bool) → begins (p ++ t) q.0 ≡ s → begins p q.0 ≡ false → begins (p ++ t) q.0 ≡ false
    not_longer true e n = absurd (false≢true (sym n ∙ begins_shorter p t q.0 e))
    not_longer false e n = e

take_longer : (key : List ℕ) (n m : ℕ) → n ≤ m → (t : List ℕ) × (take m key ≡ take n key ++ t)
take_longer key zero m le = (take m key, refl)
take_longer [] (suc n) zero le = absurd (omega arith)
take_longer [] (suc n) (suc m) le = ([], refl)
take_longer (x ∷ key) (suc n) zero le = absurd (omega arith)
take_longer (x ∷ key) (suc n) (suc m) le = let rest = take_longer key n m (omega arith) in (rest.0, ap (λ (l : List ℕ). x ∷ l) rest.1)

-- where a prefix of a key has no item, no longer one has
pub item_closed : (A : Anchors) (key : List ℕ) (n m : ℕ) → n ≤ m → item A (take n key) ≡ None → item A (take m key) ≡ None
item_closed A key n m le h =
    let more = take_longer key n m le in
    item-none A (take m key) (ap (is_prefix A) more.1 ∙ prefix_shorter A (take n key) more.0 (no_item A (take n key) h))

-- the empty prefix has an item
pub item_root : (A : Anchors) → AreAnchors A → (it : Item) × (item A [] ≡ Some it)
item_root [] are = absurd (cc (are.first))
item_root (q ∷ A) are = some_item (q ∷ A) [] refl

-- none is longer than the longest anchor
pub item_short : (A : Anchors) (p : List ℕ) → longest_anchor A < length p → item A p ≡ None
item_short A p long = item-none A p (short A long)
  where
    short : (B : Anchors) → longest_anchor B < length p → is_prefix B p ≡ false
    short [] long = refl
    short (q ∷ B) long = ap (λ (b : Bool). b || is_prefix B p) (too_long (begins p q.0) refl) ∙ short B (omega arith)
      where
        too_long : (s : Bool) → begins p q.0 ≡ s → begins p q.0 ≡ false
        too_long true e = let more = begins_is p q.0 e in absurd (omega (arith, ap length more.1, length-append p more.0))
        too_long false e = e

-- the first anchor that begins with p, and its leaf
pub record FirstOf (A : Anchors) (p a : List ℕ) (leaf : ℕ) : Type 0 where
  pub front : Anchors
  pub back : Anchors
  pub whole : A ≡ front ++ (a, leaf) ∷ back
  pub begins_so : begins p a ≡ true
  pub none_before : AllByRecursion (λ (q : List ℕ × ℕ). begins p q.0 ≡ false) front

-- the last one
pub record LastOf (A : Anchors) (p a : List ℕ) (leaf : ℕ) : Type 0 where
  pub front : Anchors
  pub back : Anchors
  pub whole : A ≡ front ++ (a, leaf) ∷ back
  pub begins_so : begins p a ≡ true
  pub none_behind : AllByRecursion (λ (q : List ℕ × ℕ). begins p q.0 ≡ false) back

pub first_of : (A : Anchors) (p : List ℕ) → is_prefix A p ≡ true → (a : List ℕ) × FirstOf A p a (first_leaf (under A p))
first_of [] p h = absurd (false≢true h)
first_of (x ∷ A) p h = elim (begins p x.0) as (λ (s : Bool). begins p x.0 ≡ s → s || is_prefix A p ≡ true → (a : List ℕ) × FirstOf (x ∷ A) p a (first_leaf (cond s (x ∷ under A p) (under A p)))) [
  | true ↦ λ e m. (x.0, record { front = []; back = A; whole = refl; begins_so = e; none_before = tt })
  | false ↦ λ e m. let r = first_of A p m in let f = r.1 in (r.0, record { front = x ∷ f.front; back = f.back; whole = ap (λ (l : Anchors). x ∷ l) f.whole; begins_so = f.begins_so; none_before = (e, f.none_before) })
] refl h

pub last_of : (A : Anchors) (p : List ℕ) → is_prefix A p ≡ true → (a : List ℕ) × LastOf A p a (last_leaf (under A p))
last_of [] p h = absurd (false≢true h)
last_of (x ∷ A) p h = elim (is_prefix A p) as (λ (s : Bool). is_prefix A p ≡ s → begins p x.0 || s ≡ true → (a : List ℕ) × LastOf (x ∷ A) p a (last_leaf (under (x ∷ A) p))) [
  | true ↦ λ e m. let r = last_of A p e in let f = r.1 in (r.0, subst (LastOf (x ∷ A) p r.0) (sym (let some = not_empty A e in longer some.0 some.1.0 some.1.1)) (record { front = x ∷ f.front; back = f.back; whole = ap (λ (l : Anchors). x ∷ l) f.whole; begins_so = f.begins_so; none_behind = f.none_behind }))
  | false ↦ λ e m. let here : begins p x.0 ≡ true = only (begins p x.0) m in let none = any_none _ A e in
      (x.0, subst (LastOf (x ∷ A) p x.0) (sym (ap last_leaf (filter_first _ x A here ∙ ap (λ (l : Anchors). x ∷ l) (filter_none _ A none)))) (record { front = []; back = A; whole = refl; begins_so = here; none_behind = none }))
] refl h
  where
    only : (s : Bool) → s || false ≡ true → s ≡ true
    only true m = refl
    only false m = m

    not_empty : (B : Anchors) → list_any (λ (q : List ℕ × ℕ). begins p q.0) B ≡ true → (y : List ℕ × ℕ) × ((ys : Anchors) × (under B p ≡ y ∷ ys))
    not_empty [] m = absurd (false≢true m)
    not_empty (y ∷ ys) m = elim (begins p y.0) as (λ (s : Bool). s || is_prefix ys p ≡ true → (z : List ℕ × ℕ) × ((zs : Anchors) × (cond s (y ∷ under ys p) (under ys p) ≡ z ∷ zs))) [
      | true ↦ λ m. (y, (under ys p, refl))
      | false ↦ λ m. not_empty ys m
    ] m

    longer : (y : List ℕ × ℕ) (ys : Anchors) → under A p ≡ y ∷ ys → last_leaf (under (x ∷ A) p) ≡ last_leaf (under A p)
    longer y ys is = elim (begins p x.0) as (λ (s : Bool). last_leaf (cond s (x ∷ under A p) (under A p)) ≡ last_leaf (under A p)) [
      | true ↦ ap (λ (l : Anchors). last_leaf (x ∷ l)) is ∙ sym (ap last_leaf is)
      | false ↦ refl
    ]

-- each leaf stands once
pub leaf_apart : (front : Anchors) (x : List ℕ × ℕ) (a : List ℕ) (leaf : ℕ) (back : Anchors) → Rises (x ∷ front ++ (a, leaf) ∷ back) → x.1 ≢ leaf
leaf_apart front x a leaf back rises same = among front (subst (λ (i : ℕ). span (front ++ (a, leaf) ∷ back) i ≡ None) same rises.1)
  where
    among : (zs : Anchors) → span (zs ++ (a, leaf) ∷ back) leaf ≡ None → ⊥
    among [] h = no_span (sym (span_here (a, leaf) back leaf refl) ∙ h)
    among (z ∷ zs) h = elim (z.1 == leaf) as (λ (s : Bool). cond s (Some (z.0, next_anchor (zs ++ (a, leaf) ∷ back))) (span (zs ++ (a, leaf) ∷ back) leaf) ≡ None → ⊥) [
      | true ↦ λ m. no_span m
      | false ↦ λ m. among zs m
    ] h

-- the span of a leaf by its place
pub span_at : (front : Anchors) (a : List ℕ) (leaf : ℕ) (back : Anchors) → Rises (front ++ (a, leaf) ∷ back) → span (front ++ (a, leaf) ∷ back) leaf ≡ Some (a, next_anchor back)
span_at [] a leaf back rises = span_here (a, leaf) back leaf refl
span_at (x ∷ front) a leaf back rises = span_later x (front ++ (a, leaf) ∷ back) leaf (leaf_apart front x a leaf back rises) ∙ span_at front a leaf back rises.2

-- the anchors of an item's first and last leaf begin with its prefix
pub leftmost_begins : (A : Anchors) (p : List ℕ) (it : Item) → Rises A → item A p ≡ Some it → (s : Span) × (span A it.leftmost ≡ Some s) × (begins p s.0 ≡ true)
leftmost_begins A p it rises h =
    let is = item_is A p it h in
    let f = first_of A p is.prefix in
    let leaf : ℕ = first_leaf (under A p) in
    ((f.0, next_anchor f.1.back), ap (span A) is.first ∙ (ap (λ (l : Anchors). span l leaf) f.1.whole ∙ span_at f.1.front f.0 leaf f.1.back (subst Rises f.1.whole rises)), f.1.begins_so)

pub rightmost_begins : (A : Anchors) (p : List ℕ) (it : Item) → Rises A → item A p ≡ Some it → (s : Span) × (span A it.rightmost ≡ Some s) × (begins p s.0 ≡ true)
rightmost_begins A p it rises h =
    let is = item_is A p it h in
    let f = last_of A p is.prefix in
    let leaf : ℕ = last_leaf (under A p) in
    ((f.0, next_anchor f.1.back), ap (span A) is.last ∙ (ap (λ (l : Anchors). span l leaf) f.1.whole ∙ span_at f.1.front f.0 leaf f.1.back (subst Rises f.1.whole rises)), f.1.begins_so)
