-- A search by the longest prefix that has an item ends at the target.
use Rattle.std.proofs.Common.{◌≡◌, ℕ, ◌<◌, ◌≤◌, ◌⊎◌, inl, inr, List, [], ◌∷◌, ◌++◌, length, take, drop, Bool, true, false, cond, zero, suc, Option, Some, None, refl, sym, ap, ◌∙◌, subst, arith, append_assoc, eq-eqb, ne_eqb, take-append-drop}
use Rattle.std.specs.List.{AllByRecursion, list_any}
use mathlib.Core.Bool.{false≢true}
use Rattle.std.proofs.lemmas.Bool.{cases_order}
use Rattle.std.proofs.lemmas.List.{append-nil}
use Rattle.key_bytes.specs.Order.{is_below, is_same}
use Rattle.key_bytes.proofs.Orders.{below_trans, below_not_back, not_below_itself, same_is, same_itself}
use Rattle.key_bytes.proofs.Conditions.{some_same}
use Rattle.anchor_rules.specs.Anchors.{Anchors, next_anchor, target_from, target, Rises, AreAnchors}
use Rattle.anchor_rules.specs.Items.{Item, begins, under, is_prefix, is_anchor_of, first_leaf, last_leaf, item, IsLongest, leaf_before, greatest_below, end_by, ends_at}
use Rattle.anchor_rules.proofs.Prefixes.{heads_less, heads_more, below_after, below_longer, not_below_prefix, begins_is, begins_longer, not_same_not_begun, past_prefix, ahead_prefix}
use Rattle.anchor_rules.proofs.Spans.{all_weaker}
use Rattle.anchor_rules.proofs.ItemParts.{all_parts, all_both, rises_back, or_none, any_here, any_only, IsItem, item_is, no_item, FirstOf, LastOf, first_of, last_of, leaf_apart}

-- the byte is above what comes next in the key, where something comes
abbrev pub Above : List ℕ → ℕ → Type 0
Above [] d = Unit {0}
Above (c ∷ rest) d = c < d

-- each anchor that is longer than p and begins with it goes on above the key
abbrev pub Past : Anchors → List ℕ → List ℕ → Type 0
Past A p rest = AllByRecursion (λ (q : List ℕ × ℕ). (d : ℕ) (t : List ℕ) → q.0 ≡ p ++ d ∷ t → Above rest d) A

-- d is the greatest byte below c with which p goes on in an anchor, and it doesn't go on with c
abbrev pub Greatest : Anchors → List ℕ → ℕ → ℕ → Type 0
Greatest A p c d = AllByRecursion (λ (q : List ℕ × ℕ). (e : ℕ) (t : List ℕ) → q.0 ≡ p ++ e ∷ t → (e ≤ d) ⊎ (c < e)) A

-- an anchor that doesn't begin with p, just before the first one that does
pub record Before (A : Anchors) (p b : List ℕ) (leaf : ℕ) : Type 0 where
  pub front : Anchors
  pub a : List ℕ
  pub next : ℕ
  pub back : Anchors
  pub whole : A ≡ front ++ (b, leaf) ∷ (a, next) ∷ back
  pub begins_so : begins p a ≡ true
  pub longer : a ≡ p → ⊥
  pub not_before : begins p b ≡ false

all_back : (P : List ℕ × ℕ → Type 0) (front back : Anchors) → AllByRecursion P (front ++ back) → AllByRecursion P back
all_back P front back all = (all_parts P front back all).1

-- anchors above the key don't count
target_from-above : (leaf : ℕ) (A : Anchors) (key : List ℕ) → AllByRecursion (λ (q : List ℕ × ℕ). is_below key q.0 ≡ true) A → target_from leaf A key ≡ leaf
target_from-above leaf [] key all = refl
target_from-above leaf (q ∷ A) key all = ap (λ (b : Bool). target_from (cond b leaf q.1) A key) all.0 ∙ target_from-above leaf A key all.1

-- the anchor that isn't above the key, and those behind it that are
target_from-append : (leaf : ℕ) (front back : Anchors) (key : List ℕ) → target_from leaf (front ++ back) key ≡ target_from (target_from leaf front key) back key
target_from-append leaf [] back key = refl
target_from-append leaf (q ∷ front) back key = target_from-append (cond (is_below key q.0) leaf q.1) front back key

pub spans_target : (A front back : Anchors) (key a : List ℕ) (leaf : ℕ) → A ≡ front ++ (a, leaf) ∷ back → is_below key a ≡ false → AllByRecursion (λ (q : List ℕ × ℕ). is_below key q.0 ≡ true) back → target A key ≡ leaf
spans_target A front back key a leaf whole low high =
    ap (λ (l : Anchors). target_from 0 l key) whole
    ∙ target_from-append 0 front ((a, leaf) ∷ back) key
    ∙ ap (λ (b : Bool). target_from (cond b (target_from 0 front key) leaf) back key) low
    ∙ target_from-above leaf back key high

goes_on : (p rest : List ℕ) (d : ℕ) (t : List ℕ) → Above rest d → is_below (p ++ rest) (p ++ d ∷ t) ≡ true
goes_on p [] d t above = below_after p [] (d ∷ t)
goes_on p (c ∷ rest) d t above = below_after p (c ∷ rest) (d ∷ t) ∙ heads_less c d rest t above

longer_above : (p rest t q : List ℕ) → q ≡ p ++ t → is_below p q ≡ true → ((d : ℕ) (u : List ℕ) → q ≡ p ++ d ∷ u → Above rest d) → is_below (p ++ rest) q ≡ true
longer_above p rest [] q is below past = absurd (false≢true (sym (not_below_itself p) ∙ ap (is_below p) (sym (is ∙ append-nil p)) ∙ below))
longer_above p rest (d ∷ t) q is below past = ap (is_below (p ++ rest)) is ∙ goes_on p rest d t (past d t is)

-- what is above the prefix is above the key
above_key : (p rest q : List ℕ) → is_below p q ≡ true → ((d : ℕ) (u : List ℕ) → q ≡ p ++ d ∷ u → Above rest d) → is_below (p ++ rest) q ≡ true
above_key p rest q below past = elim (begins p q) as (λ (t : Bool). begins p q ≡ t → is_below (p ++ rest) q ≡ true) [
  | true ↦ λ e. let more = begins_is p q e in longer_above p rest more.0 q more.1 below past
  | false ↦ λ e. past_prefix p q rest below e
] refl

at_prefix : (A : Anchors) (p rest : List ℕ) (leaf : ℕ) → Rises A → Past A p rest → FirstOf A p p leaf → target A (p ++ rest) ≡ leaf
at_prefix A p rest leaf rises past f =
    let behind = rises_back f.front ((p, leaf) ∷ f.back) (subst Rises f.whole rises) in
    let on = all_back _ f.front ((p, leaf) ∷ f.back) (subst (λ (l : Anchors). Past l p rest) f.whole past) in
    spans_target A f.front f.back (p ++ rest) p leaf f.whole (not_below_prefix p rest)
    (all_both _ _ _ (λ q below on. above_key p rest q.0 below on) f.back behind.0 on.1)

first_longer : (p a t : List ℕ) → a ≡ p ++ t → (a ≡ p → ⊥) → is_below p a ≡ true
first_longer p a [] is longer = absurd (longer (is ∙ append-nil p))
first_longer p a (d ∷ t) is longer = ap (is_below p) is ∙ below_longer p d t

at_left : (A : Anchors) (p rest b : List ℕ) (leaf : ℕ) → Rises A → Past A p rest → Before A p b leaf → target A (p ++ rest) ≡ leaf
at_left A p rest b leaf rises past f =
    let behind = rises_back f.front ((b, leaf) ∷ (f.a, f.next) ∷ f.back) (subst Rises f.whole rises) in
    let on = all_back _ f.front ((b, leaf) ∷ (f.a, f.next) ∷ f.back) (subst (λ (l : Anchors). Past l p rest) f.whole past) in
    let more = begins_is p f.a f.begins_so in
    let over = first_longer p f.a more.0 more.1 f.longer in
    let low : is_below b (p ++ more.0) ≡ true = ap (is_below b) (sym more.1) ∙ behind.0.0 in
    let all_over = all_weaker _ (λ (q : List ℕ × ℕ). is_below p q.0 ≡ true) (λ q h. below_trans p f.a q.0 over h) f.back behind.2.0 in
    spans_target A f.front ((f.a, f.next) ∷ f.back) (p ++ rest) b leaf f.whole
    (below_not_back b (p ++ rest) (ahead_prefix p b more.0 rest low f.not_before))
    (all_both _ _ _ (λ q below on. above_key p rest q.0 below on) ((f.a, f.next) ∷ f.back) (over, all_over) on.1)

-- an anchor behind the last one that goes on with d
behind_child : (p rest s t : List ℕ) (c d : ℕ) (q : List ℕ) → q ≡ p ++ t → is_below (p ++ d ∷ s) q ≡ true → begins (p ++ d ∷ []) q ≡ false → ((e : ℕ) (u : List ℕ) → q ≡ p ++ e ∷ u → (e ≤ d) ⊎ (c < e)) → is_below (p ++ c ∷ rest) q ≡ true
behind_child p rest s [] c d q is over other greatest = absurd (false≢true (sym (below_after p (d ∷ s) []) ∙ ap (is_below (p ++ d ∷ s)) (sym is) ∙ over))
behind_child p rest s (e ∷ t) c d q is over other greatest = elim (greatest e t is) [
  | inr l ↦ ap (is_below (p ++ c ∷ rest)) is ∙ below_after p (c ∷ rest) (e ∷ t) ∙ heads_less c e rest t l
  | inl le ↦ elim (cases_order e d) [
    | inl same ↦
        let whole : q ≡ (p ++ d ∷ []) ++ t = is ∙ ap (λ (x : ℕ). p ++ x ∷ t) same ∙ sym (append_assoc p (d ∷ []) t) in
        absurd (false≢true (sym other ∙ ap (begins (p ++ d ∷ [])) whole ∙ begins_longer (p ++ d ∷ []) t))
    | inr r ↦ elim r [
      | inl l ↦ absurd (false≢true (sym (heads_more d e s t l) ∙ sym (below_after p (d ∷ s) (e ∷ t)) ∙ ap (is_below (p ++ d ∷ s)) (sym is) ∙ over))
      | inr m ↦ absurd (omega arith)
    ]
  ]
]

child_above : (p rest s : List ℕ) (c d : ℕ) (q : List ℕ) → is_below (p ++ d ∷ s) q ≡ true → begins (p ++ d ∷ []) q ≡ false → ((e : ℕ) (u : List ℕ) → q ≡ p ++ e ∷ u → (e ≤ d) ⊎ (c < e)) → is_below (p ++ c ∷ rest) q ≡ true
child_above p rest s c d q over other greatest = elim (begins p q) as (λ (t : Bool). begins p q ≡ t → is_below (p ++ c ∷ rest) q ≡ true) [
  | true ↦ λ e. let more = begins_is p q e in behind_child p rest s more.0 c d q more.1 over other greatest
  | false ↦ λ e. past_prefix p q (c ∷ rest) (below_trans p (p ++ d ∷ s) q (below_longer p d s) over) e
] refl

at_child : (A : Anchors) (p rest a : List ℕ) (c d leaf : ℕ) → Rises A → d < c → Greatest A p c d → LastOf A (p ++ d ∷ []) a leaf → target A (p ++ c ∷ rest) ≡ leaf
at_child A p rest a c d leaf rises less greatest f =
    let behind = rises_back f.front ((a, leaf) ∷ f.back) (subst Rises f.whole rises) in
    let on = all_back _ f.front ((a, leaf) ∷ f.back) (subst (λ (l : Anchors). Greatest l p c d) f.whole greatest) in
    let more = begins_is (p ++ d ∷ []) a f.begins_so in
    let is : a ≡ p ++ d ∷ more.0 = more.1 ∙ append_assoc p (d ∷ []) more.0 in
    let low : is_below a (p ++ c ∷ rest) ≡ true = ap (λ (z : List ℕ). is_below z (p ++ c ∷ rest)) is ∙ below_after p (d ∷ more.0) (c ∷ rest) ∙ heads_less d c more.0 rest less in
    let over = all_weaker _ (λ (q : List ℕ × ℕ). is_below (p ++ d ∷ more.0) q.0 ≡ true) (λ q h. ap (λ (z : List ℕ). is_below z q.0) (sym is) ∙ h) f.back behind.0 in
    let both = all_both _ _ (λ (q : List ℕ × ℕ). (is_below (p ++ d ∷ more.0) q.0 ≡ true) × (begins (p ++ d ∷ []) q.0 ≡ false)) (λ q x y. (x, y)) f.back over f.none_behind in
    spans_target A f.front f.back (p ++ c ∷ rest) a leaf f.whole (below_not_back a (p ++ c ∷ rest) low)
    (all_both _ _ _ (λ q h on. child_above p rest more.0 c d q.0 h.0 h.1 on) f.back both on.1)

-- where nothing goes on from p with a byte up to the key's next one, all that goes on is past the key
abbrev pub UpTo : List ℕ → ℕ → Type 0
UpTo [] d = ⊥
UpTo (c ∷ rest) d = d ≤ c

goes_with : (p t q : List ℕ) (d : ℕ) → begins (p ++ d ∷ []) q ≡ false → q ≡ p ++ d ∷ t → ⊥
goes_with p t q d none is = false≢true (sym none ∙ ap (begins (p ++ d ∷ [])) (is ∙ sym (append_assoc p (d ∷ []) t)) ∙ begins_longer (p ++ d ∷ []) t)

past_from : (A : Anchors) (p rest : List ℕ) → ((d : ℕ) → UpTo rest d → is_prefix A (p ++ d ∷ []) ≡ false) → Past A p rest
past_from [] p rest none = tt
past_from (x ∷ A) p rest none = (λ d t is. above rest d t is none, past_from A p rest (λ d le. (or_none (begins (p ++ d ∷ []) x.0) (is_prefix A (p ++ d ∷ [])) (none d le)).1))
  where
    above : (rest : List ℕ) (d : ℕ) (t : List ℕ) → x.0 ≡ p ++ d ∷ t → ((e : ℕ) → UpTo rest e → is_prefix (x ∷ A) (p ++ e ∷ []) ≡ false) → Above rest d
    above [] d t is none = tt
    above (c ∷ rest) d t is none = elim (cases_order c d) [
      | inl same ↦ absurd (goes_with p t x.0 d (or_none (begins (p ++ d ∷ []) x.0) (is_prefix A (p ++ d ∷ [])) (none d (omega arith))).0 is)
      | inr r ↦ elim r [ inl l ↦ l | inr m ↦ absurd (goes_with p t x.0 d (or_none (begins (p ++ d ∷ []) x.0) (is_prefix A (p ++ d ∷ [])) (none d (omega arith))).0 is) ]
    ]

greatest_from : (A : Anchors) (p : List ℕ) (c d : ℕ) → ((e : ℕ) → d < e → e ≤ c → is_prefix A (p ++ e ∷ []) ≡ false) → Greatest A p c d
greatest_from [] p c d none = tt
greatest_from (x ∷ A) p c d none = (λ e t is. side e t is, greatest_from A p c d (λ e more le. (or_none (begins (p ++ e ∷ []) x.0) (is_prefix A (p ++ e ∷ [])) (none e more le)).1))
  where
    between : (e : ℕ) (t : List ℕ) → x.0 ≡ p ++ e ∷ t → d < e → e ≤ c → ⊥
    between e t is more le = goes_with p t x.0 e (or_none (begins (p ++ e ∷ []) x.0) (is_prefix A (p ++ e ∷ [])) (none e more le)).0 is

    side : (e : ℕ) (t : List ℕ) → x.0 ≡ p ++ e ∷ t → (e ≤ d) ⊎ (c < e)
    side e t is = elim (cases_order d e) [
      | inl same ↦ inl (omega arith)
      | inr r ↦ elim r [
        | inl more ↦ elim (cases_order c e) [
          | inl same ↦ absurd (between e t is more (omega arith))
          | inr s ↦ elim s [ inl l ↦ inr l | inr m ↦ absurd (between e t is more (omega arith)) ]
        ]
        | inr less ↦ inl (omega arith)
      ]
    ]

-- what is found below a number
pub greatest_none : (test : ℕ → Bool) (c : ℕ) → greatest_below test c ≡ None → (e : ℕ) → e < c → test e ≡ false
greatest_none test zero h e lt = absurd (omega arith)
greatest_none test (suc c) h e lt = elim (test c) as (λ (s : Bool). test c ≡ s → cond s (Some c) (greatest_below test c) ≡ None → test e ≡ false) [
  | true ↦ λ is m. absurd (cc)
  | false ↦ λ is m. elim (cases_order e c) [
    | inl same ↦ ap test same ∙ is
    | inr r ↦ elim r [ inl l ↦ greatest_none test c m e l | inr g ↦ absurd (omega arith) ]
  ]
] refl h

pub record IsGreatest (test : ℕ → Bool) (c d : ℕ) : Type 0 where
  pub below : d < c
  pub passes : test d ≡ true
  pub none_between : (e : ℕ) → d < e → e < c → test e ≡ false

pub greatest_some : (test : ℕ → Bool) (c d : ℕ) → greatest_below test c ≡ Some d → IsGreatest test c d
greatest_some test zero d h = absurd (cc)
greatest_some test (suc c) d h = elim (test c) as (λ (s : Bool). test c ≡ s → cond s (Some c) (greatest_below test c) ≡ Some d → IsGreatest test (suc c) d) [
  | true ↦ λ is m. let same : c ≡ d = cc in record { below = omega arith; passes = ap test (sym same) ∙ is; none_between = λ e l g. absurd (omega arith) }
  | false ↦ λ is m. let rest = greatest_some test c d m in record {
    below = omega (arith, rest.below);
    passes = rest.passes;
    none_between = λ e l g. elim (cases_order e c) [
      | inl same ↦ ap test same ∙ is
      | inr r ↦ elim r [ inl less ↦ rest.none_between e l less | inr more ↦ absurd (omega arith) ]
    ];
  }
] refl h

-- the first anchor that begins with an anchor is that anchor
anchor_first : (A : Anchors) (p a : List ℕ) (leaf : ℕ) → Rises A → is_anchor_of A p ≡ true → FirstOf A p a leaf → p ≡ a
anchor_first A p a leaf rises here f =
    let test : List ℕ × ℕ → Bool = λ q. is_same p q.0 in
    let behind = rises_back f.front ((a, leaf) ∷ f.back) (subst Rises f.whole rises) in
    let more = begins_is p a f.begins_so in
    let not_back = all_weaker _ (λ (q : List ℕ × ℕ). test q ≡ false) (λ q below. not_same_above p more.0 q.0 (ap (λ (z : List ℕ). is_below z q.0) (sym more.1) ∙ below)) f.back behind.0 in
    let not_front = all_weaker _ (λ (q : List ℕ × ℕ). test q ≡ false) (λ q none. not_same_not_begun p q.0 none) f.front f.none_before in
    same_is p a (sym (ap (list_any test) f.whole ∙ any_only test f.front (a, leaf) f.back not_front not_back) ∙ here)
  where
    not_same_above : (p t q : List ℕ) → is_below (p ++ t) q ≡ true → is_same p q ≡ false
    not_same_above p t q below = elim (is_same p q) as (λ (s : Bool). is_same p q ≡ s → s ≡ false) [
      | true ↦ λ e. absurd (false≢true (sym (not_below_prefix p t) ∙ ap (is_below (p ++ t)) (same_is p q e) ∙ below))
      | false ↦ λ e. refl
    ] refl

-- the leaf before one, by its place
pub leaf_before_at : (front : Anchors) (y : List ℕ × ℕ) (a : List ℕ) (leaf : ℕ) (back : Anchors) → Rises (front ++ y ∷ (a, leaf) ∷ back) → leaf_before (front ++ y ∷ (a, leaf) ∷ back) leaf ≡ y.1
leaf_before_at [] y a leaf back rises = ap (λ (b : Bool). cond b y.1 (leaf_before ((a, leaf) ∷ back) leaf)) (eq-eqb leaf leaf refl)
leaf_before_at (x ∷ []) y a leaf back rises = ap (λ (b : Bool). cond b x.1 (leaf_before (y ∷ (a, leaf) ∷ back) leaf)) (ne_eqb y.1 leaf (leaf_apart [] y a leaf back rises.2)) ∙ leaf_before_at [] y a leaf back rises.2
leaf_before_at (x ∷ z ∷ front) y a leaf back rises =
    let again : Rises (z ∷ (front ++ y ∷ []) ++ (a, leaf) ∷ back) = subst (λ (l : Anchors). Rises (z ∷ l)) (sym (append_assoc front (y ∷ []) ((a, leaf) ∷ back))) rises.2 in
    ap (λ (b : Bool). cond b x.1 (leaf_before (z ∷ front ++ y ∷ (a, leaf) ∷ back) leaf)) (ne_eqb z.1 leaf (leaf_apart (front ++ y ∷ []) z a leaf back again)) ∙ leaf_before_at (z ∷ front) y a leaf back rises.2

pub last_one : (x : List ℕ × ℕ) (xs : Anchors) → (ys : Anchors) × ((y : List ℕ × ℕ) × (x ∷ xs ≡ ys ++ y ∷ []))
last_one x [] = ([], (x, refl))
last_one x (z ∷ xs) = let rest = last_one z xs in (x ∷ rest.0, (rest.1.0, ap (λ (l : Anchors). x ∷ l) rest.1.1))

pub begins_empty : (p : List ℕ) → begins p [] ≡ true → p ≡ []
begins_empty [] h = refl
begins_empty (x ∷ p) h = absurd (false≢true h)

-- before the first anchor that begins with p, where p isn't an anchor, another one stands
before_of : (A : Anchors) (p a : List ℕ) (leaf : ℕ) → AreAnchors A → is_anchor_of A p ≡ false → FirstOf A p a leaf → (b : List ℕ) × Before A p b (leaf_before A leaf)
before_of A p a leaf are not_anchor f = go f.front f.whole f.none_before
  where
    longer : a ≡ p → ⊥
    longer same = false≢true (sym not_anchor ∙ (ap (is_anchor_of_p) f.whole ∙ any_here (λ (q : List ℕ × ℕ). is_same p q.0) f.front (a, leaf) f.back (ap (is_same p) same ∙ same_itself p)))
      where
        is_anchor_of_p : Anchors → Bool
        is_anchor_of_p l = is_anchor_of l p

    go : (front : Anchors) → A ≡ front ++ (a, leaf) ∷ f.back → AllByRecursion (λ (q : List ℕ × ℕ). begins p q.0 ≡ false) front → (b : List ℕ) × Before A p b (leaf_before A leaf)
    go [] whole none =
        let empty : a ≡ [] = some_same a [] (sym (ap next_anchor whole) ∙ are.first) in
        absurd (longer (empty ∙ sym (begins_empty p (sym (ap (begins p) empty) ∙ f.begins_so))))
    go (x ∷ xs) whole none =
        let last = last_one x xs in
        let ys = last.0 in
        let y = last.1.0 in
        let whole' : A ≡ ys ++ y ∷ (a, leaf) ∷ f.back = whole ∙ (ap (λ (l : Anchors). l ++ (a, leaf) ∷ f.back) last.1.1 ∙ append_assoc ys (y ∷ []) ((a, leaf) ∷ f.back)) in
        let not_before = all_parts (λ (q : List ℕ × ℕ). begins p q.0 ≡ false) ys (y ∷ []) (subst (λ (l : Anchors). AllByRecursion (λ (q : List ℕ × ℕ). begins p q.0 ≡ false) l) last.1.1 none) in
        let leaf_is : leaf_before A leaf ≡ y.1 = ap (λ (l : Anchors). leaf_before l leaf) whole' ∙ leaf_before_at ys y a leaf f.back (subst Rises whole' are.rises) in
        (y.0, subst (Before A p y.0) (sym leaf_is) (record { front = ys; a = a; next = leaf; back = f.back; whole = whole'; begins_so = f.begins_so; longer = longer; not_before = not_before.1.0 }))

at_end : (A : Anchors) (p rest : List ℕ) (it : Item) → AreAnchors A → IsItem A p it → Past A p rest → end_by A p it None ≡ target A (p ++ rest)
at_end A p rest it are is past =
    let f = first_of A p is.prefix in
    let leaf : ℕ = first_leaf (under A p) in
    elim it.is_anchor as (λ (s : Bool). it.is_anchor ≡ s → cond s it.leftmost (leaf_before A it.leftmost) ≡ target A (p ++ rest)) [
      | true ↦ λ e.
          let same = anchor_first A p f.0 leaf are.rises (sym is.anchor ∙ e) f.1 in
          is.first ∙ sym (at_prefix A p rest leaf are.rises past (subst (λ (z : List ℕ). FirstOf A p z leaf) (sym same) f.1))
      | false ↦ λ e.
          let b = before_of A p f.0 leaf are (sym is.anchor ∙ e) f.1 in
          ap (leaf_before A) is.first ∙ sym (at_left A p rest b.0 (leaf_before A leaf) are.rises past b.1)
    ] refl

-- where the key is p and the rest
ends_behind : (A : Anchors) (p rest : List ℕ) (it : Item) → AreAnchors A → item A p ≡ Some it → ((c : ℕ) (more : List ℕ) → rest ≡ c ∷ more → item A (p ++ c ∷ []) ≡ None) → ends_at A p it rest ≡ target A (p ++ rest)
ends_behind A p [] it are known none = at_end A p [] it are (item_is A p it known) (past_from A p [] (λ d le. absurd le))
ends_behind A p (c ∷ rest) it are known none =
    let is = item_is A p it known in
    let not_with_c = no_item A (p ++ c ∷ []) (none c rest refl) in
    elim (greatest_below it.child c) as (λ (o : Option ℕ). greatest_below it.child c ≡ o → end_by A p it o ≡ target A (p ++ c ∷ rest)) [
      | None ↦ λ e. at_end A p (c ∷ rest) it are is (past_from A p (c ∷ rest) (λ d le. up_to is not_with_c (greatest_none it.child c e) d le))
      | Some d ↦ λ e.
          let g = greatest_some it.child c d e in
          let last = last_of A (p ++ d ∷ []) (sym (is.children d) ∙ g.passes) in
          sym (at_child A p rest last.0 c d (last_leaf (under A (p ++ d ∷ []))) are.rises g.below (greatest_from A p c d (λ e more le. above_d is not_with_c d g.none_between e more le)) last.1)
    ] refl
  where
    up_to : IsItem A p it → is_prefix A (p ++ c ∷ []) ≡ false → ((e : ℕ) → e < c → it.child e ≡ false) → (d : ℕ) → d ≤ c → is_prefix A (p ++ d ∷ []) ≡ false
    up_to is here below d le = elim (cases_order d c) [
      | inl same ↦ ap (λ (e : ℕ). is_prefix A (p ++ e ∷ [])) same ∙ here
      | inr r ↦ elim r [ inl l ↦ sym (is.children d) ∙ below d l | inr m ↦ absurd (omega arith) ]
    ]

    above_d : IsItem A p it → is_prefix A (p ++ c ∷ []) ≡ false → (d : ℕ) → ((e : ℕ) → d < e → e < c → it.child e ≡ false) → (e : ℕ) → d < e → e ≤ c → is_prefix A (p ++ e ∷ []) ≡ false
    above_d is here d between e more le = elim (cases_order e c) [
      | inl same ↦ ap (λ (x : ℕ). is_prefix A (p ++ x ∷ [])) same ∙ here
      | inr r ↦ elim r [ inl l ↦ sym (is.children e) ∙ between e more l | inr m ↦ absurd (omega arith) ]
    ]

-- one byte more of a key
pub record NextByte (key : List ℕ) (n c : ℕ) : Type 0 where
  pub longer : take (suc n) key ≡ take n key ++ c ∷ []
  pub in_key : n < length key

pub next_byte : (key : List ℕ) (n c : ℕ) (rest : List ℕ) → drop n key ≡ c ∷ rest → NextByte key n c
next_byte [] zero c rest h = absurd (cc)
next_byte (x ∷ key) zero c rest h = let same : x ≡ c = cc in record { longer = ap (λ (z : ℕ). z ∷ []) same; in_key = omega arith }
next_byte [] (suc n) c rest h = absurd (cc)
next_byte (x ∷ key) (suc n) c rest h = let r = next_byte key n c rest h in record { longer = ap (λ (l : List ℕ). x ∷ l) r.longer; in_key = omega (arith, r.in_key) }

-- a search by the longest prefix that has an item ends at the key's target
pub ends_at-target : (A : Anchors) (key : List ℕ) (n : ℕ) (it : Item) → AreAnchors A → IsLongest A key n it → ends_at A (take n key) it (drop n key) ≡ target A key
ends_at-target A key n it are is =
    ends_behind A (take n key) (drop n key) it are is.known (λ c rest h. let b = next_byte key n c rest h in ap (item A) (sym b.longer) ∙ is.none_longer (suc n) (omega arith) (omega (arith, b.in_key)))
    ∙ ap (target A) (take-append-drop n key)
