-- Closed anchors keep the order, and none is a prefix of another.
use Rattle.std.proofs.Common.{◌≡◌, ◌≢◌, ◌⊎◌, inl, inr, ℕ, ◌+◌, ◌<◌, List, [], ◌∷◌, length, drop, zero, suc, map, Option, Some, None, Bool, true, false, cond, eqb, nat_eq, ◌&&◌, ◌||◌, sym, refl, ap, ◌∙◌, subst, arith, eq-eqb, ne_eqb, true≢false}
use mathlib.Core.Logic.{dite}
use native.Mathlib.Decide.{ℕ_discrete}
use Rattle.std.specs.declared.cmp.Ordering.{Ordering}
use Rattle.std.specs.declared.cmp.Ordering.TheVariants.{Less, Equal, Greater}
use Rattle.std.specs.Ordering.{nat_cmp, is_lt, ordering_then}
use Rattle.std.specs.Cmp.Lexicographic.{slice_cmp}
use Rattle.std.proofs.lemmas.Cmp.{nat_cmp_total, tied_itself, ranked}
use Rattle.std.specs.List.{AllByRecursion, starts_with}
use Rattle.key_bytes.specs.Order.{is_below}
use Rattle.key_bytes.proofs.Orders.{below_not_back, not_below_itself}
use Rattle.anchor_rules.specs.Anchors.{Anchors, anchor_at, next_anchor, Rises}
use Rattle.anchor_rules.specs.Closing.{is_start, is_closed, closed, closed_anchors, IsApart, IsPrefixFree}
use Rattle.anchor_rules.proofs.Spans.{all_weaker}

start_same : (x : ℕ) (a b : List ℕ) → is_start (x ∷ a) (x ∷ b) ≡ is_start a b
start_same x a b = ap (λ t. t && is_start a b) (eq-eqb x x refl)

shifted : (x y : ℕ) → nat_cmp (x + 1) (y + 1) ≡ nat_cmp x y
shifted x y = grind arith

zero_less : (y : ℕ) → nat_cmp 0 (y + 1) ≡ Less
zero_less y = grind arith

zero_less_back : (y : ℕ) → nat_cmp (y + 1) 0 ≡ Greater
zero_less_back y = grind arith

pub closed_order : (f g : Bool) (a b : List ℕ) → a ≢ b → (is_start a b ≡ true → f ≡ true) → (is_start b a ≡ true → g ≡ true) → slice_cmp nat_cmp (closed f a) (closed g b) ≡ slice_cmp nat_cmp a b
closed_order f g [] [] ne left right = absurd (ne refl)
closed_order f g [] (y ∷ b) ne left right = ap (λ t. slice_cmp nat_cmp (cond t (0 ∷ []) []) ((y + 1) ∷ closed g b)) (left refl) ∙ ap (λ o. ordering_then o (slice_cmp nat_cmp [] (closed g b))) (zero_less y)
closed_order f g (x ∷ a) [] ne left right = ap (λ t. slice_cmp nat_cmp ((x + 1) ∷ closed f a) (cond t (0 ∷ []) [])) (right refl) ∙ ap (λ o. ordering_then o (slice_cmp nat_cmp (closed f a) [])) (zero_less_back x)
closed_order f g (x ∷ a) (y ∷ b) ne left right = dite (ℕ_discrete x y)
    (λ same.
    let rest = closed_order f g a b (λ e. ne (ap (λ t. x ∷ t) e ∙ ap (λ z. z ∷ b) same))
    (λ e. left (ap (λ z. is_start (x ∷ a) (z ∷ b)) (sym same) ∙ (start_same x a b ∙ e)))
    (λ e. right (ap (λ z. is_start (y ∷ b) (z ∷ a)) same ∙ (start_same y b a ∙ e))) in
    ap (λ o. ordering_then o (slice_cmp nat_cmp (closed f a) (closed g b))) (shifted x y) ∙ ap (ordering_then (nat_cmp x y)) rest)
    (λ apart. ap (λ o. ordering_then o (slice_cmp nat_cmp (closed f a) (closed g b))) (shifted x y) ∙ undecided (nat_cmp x y) refl apart)
  where
    undecided : (o : Ordering) → nat_cmp x y ≡ o → x ≢ y → ordering_then (nat_cmp x y) (slice_cmp nat_cmp (closed f a) (closed g b)) ≡ ordering_then (nat_cmp x y) (slice_cmp nat_cmp a b)
    undecided Less e apart = ap (λ o. ordering_then o (slice_cmp nat_cmp (closed f a) (closed g b))) e ∙ sym (ap (λ o. ordering_then o (slice_cmp nat_cmp a b)) e)
    undecided Greater e apart = ap (λ o. ordering_then o (slice_cmp nat_cmp (closed f a) (closed g b))) e ∙ sym (ap (λ o. ordering_then o (slice_cmp nat_cmp a b)) e)
    undecided Equal e apart = absurd (apart (ranked x y Equal (sym e)))

-- a prefix, which may be the whole
pub no_prefix : (f g : Bool) (a b : List ℕ) → a ≢ b → (is_start a b ≡ true → f ≡ true) → is_start (closed f a) (closed g b) ≡ false
no_prefix f g [] [] ne left = absurd (ne refl)
no_prefix f g [] (y ∷ b) ne left = ap (λ t. is_start (cond t (0 ∷ []) []) ((y + 1) ∷ closed g b)) (left refl) ∙ ap (λ t. t && is_start [] (closed g b)) (ne_eqb 0 (y + 1) (λ e. omega arith))
no_prefix f g (x ∷ a) [] ne left = elim g as (λ t. is_start ((x + 1) ∷ closed f a) (cond t (0 ∷ []) []) ≡ false) [ true ↦ ap (λ t. t && is_start (closed f a) []) (ne_eqb (x + 1) 0 (λ e. omega arith)) | false ↦ refl ]
no_prefix f g (x ∷ a) (y ∷ b) ne left = dite (ℕ_discrete x y)
    (λ same. ap (λ t. t && is_start (closed f a) (closed g b)) (eq-eqb (x + 1) (y + 1) (ap (λ z. z + 1) same))
    ∙ no_prefix f g a b (λ e. ne (ap (λ t. x ∷ t) e ∙ ap (λ z. z ∷ b) same)) (λ e. left (ap (λ z. is_start (x ∷ a) (z ∷ b)) (sym same) ∙ (start_same x a b ∙ e))))
    (λ apart. ap (λ t. t && is_start (closed f a) (closed g b)) (ne_eqb (x + 1) (y + 1) (λ e. apart (omega arith))))

-- strings in order by their first bytes, or by what follows
below_heads : (x y : ℕ) (a b : List ℕ) → is_below (x ∷ a) (y ∷ b) ≡ true → (x < y) ⊎ ((x ≡ y) × (is_below a b ≡ true))
below_heads x y a b below = elim (nat_cmp x y) as (λ o. nat_cmp x y ≡ o → is_lt (ordering_then o (slice_cmp nat_cmp a b)) ≡ true → (x < y) ⊎ ((x ≡ y) × (is_below a b ≡ true))) [
  | Less ↦ λ e h. inl (ranked x y Less (sym e))
  | Equal ↦ λ e h. let same : x ≡ y = ranked x y Equal (sym e) in inr (same, h)
  | Greater ↦ λ e h. absurd (true≢false (sym h))
] refl below

start_heads : (x y : ℕ) (a b : List ℕ) → is_start (x ∷ a) (y ∷ b) ≡ true → (x ≡ y) × (is_start a b ≡ true)
start_heads x y a b start = dite (ℕ_discrete x y)
    (λ same. let e : is_start (x ∷ a) (y ∷ b) ≡ is_start a b = ap (λ t. t && is_start a b) (eq-eqb x y same) in (same, sym e ∙ start))
    (λ ne. let e : is_start (x ∷ a) (y ∷ b) ≡ false = ap (λ t. t && is_start a b) (ne_eqb x y ne) in absurd (true≢false (sym start ∙ e)))

-- a proper prefix is below
pub start_below : (a b : List ℕ) → is_start a b ≡ true → is_below a b ≡ true
start_below [] [] start = absurd (true≢false (sym start))
start_below [] (y ∷ b) start = refl
start_below (x ∷ a) [] start = absurd (true≢false (sym start))
start_below (x ∷ a) (y ∷ b) start =
    let h = start_heads x y a b start in
    ap (λ o. is_lt (ordering_then o (slice_cmp nat_cmp a b))) (subst (λ z. nat_cmp x z ≡ Equal) h.0 (tied_itself nat_cmp_total x)) ∙ start_below a b h.1

-- what begins one string begins all between the two
pub start_between : (a y z : List ℕ) → is_below a y ≡ true → is_below y z ≡ true → is_start a z ≡ true → is_start a y ≡ true
start_between [] [] z ay yz start = absurd (true≢false (sym ay))
start_between [] (y ∷ b) z ay yz start = refl
start_between (x ∷ a) [] z ay yz start = absurd (true≢false (sym ay))
start_between (x ∷ a) (y ∷ b) [] ay yz start = absurd (true≢false (sym start))
start_between (x ∷ a) (y ∷ b) (z ∷ c) ay yz start =
    let same = start_heads x z a c start in
    let xz : x ≡ z = same.0 in
    elim (below_heads x y a b ay) [
      | inl less ↦ elim (below_heads y z b c yz) [
        | inl more ↦ absurd (omega arith)
        | inr tied ↦ let yz' : y ≡ z = tied.0 in absurd (omega arith)
      ]
      | inr tied ↦
          let xy : x ≡ y = tied.0 in
          elim (below_heads y z b c yz) [
            | inl more ↦ absurd (omega arith)
            | inr over ↦ ap (λ t. t && is_start a b) (eq-eqb x y xy) ∙ start_between a b c tied.1 over.1 same.1
          ]
    ]

not_start : (a b : List ℕ) (t : Bool) → is_start a b ≡ t → is_below b a ≡ true → is_start a b ≡ false
not_start a b true e above = absurd (true≢false (sym (start_below a b e) ∙ below_not_back b a above))
not_start a b false e above = e

-- a string above is no prefix
pub start_above : (a b : List ℕ) → is_below b a ≡ true → is_start a b ≡ false
start_above a b above = not_start a b (is_start a b) refl above

pub start_itself : (a : List ℕ) → is_start a a ≡ false
start_itself [] = refl
start_itself (x ∷ a) = start_same x a a ∙ start_itself a

either : (p q : Bool) → p ≡ false → (p || q) ≡ q
either true q e = absurd (true≢false e)
either false q e = refl

-- behind an anchor that doesn't go on from this one, none does
none_goes_on : (a y : List ℕ) (zs : Anchors) → is_below a y ≡ true → is_start a y ≡ false → AllByRecursion (λ (z : List ℕ × ℕ). is_below y z.0 ≡ true) zs → is_closed zs a ≡ false
none_goes_on a y [] below apart above = refl
none_goes_on a y (z ∷ zs) below apart above = either (is_start a z.0) (is_closed zs a) (by (is_start a z.0) refl) ∙ none_goes_on a y zs below apart above.1
  where
    by : (t : Bool) → is_start a z.0 ≡ t → is_start a z.0 ≡ false
    by true e = absurd (true≢false (sym (start_between a y z.0 below above.0 e) ∙ apart))
    by false e = e

-- whether the next anchor goes on from this one
abbrev pub goes_on : List ℕ → Option (List ℕ) → Bool
goes_on a None = false
goes_on a (Some b) = is_start a b

-- the next anchor decides
closed_next : (a : List ℕ) (ys : Anchors) → AllByRecursion (λ (y : List ℕ × ℕ). is_below a y.0 ≡ true) ys → Rises ys → is_closed ys a ≡ goes_on a (next_anchor ys)
closed_next a [] above rises = refl
closed_next a (y ∷ ys) above rises = by (is_start a y.0) refl
  where
    by : (t : Bool) → is_start a y.0 ≡ t → (is_start a y.0 || is_closed ys a) ≡ is_start a y.0
    by true e = ap (λ b. b || is_closed ys a) e ∙ sym e
    by false e = either (is_start a y.0) (is_closed ys a) e ∙ (none_goes_on a y.0 ys above.0 e rises.0 ∙ sym e)

above_at : (x : List ℕ) (xs : Anchors) (i : ℕ) → i < length xs → AllByRecursion (λ (y : List ℕ × ℕ). is_below x y.0 ≡ true) xs → is_below x (anchor_at xs i) ≡ true
above_at x [] i lt all = absurd (omega arith)
above_at x (y ∷ ys) zero lt all = all.0
above_at x (y ∷ ys) (suc i) lt all = above_at x ys i (omega arith) all.1

-- an anchor is a proper prefix of another exactly where it is one of the next
pub closed_at : (A : Anchors) (i : ℕ) → Rises A → i < length A → is_closed A (anchor_at A i) ≡ goes_on (anchor_at A i) (next_anchor (drop (suc i) A))
closed_at [] i rises lt = absurd (omega arith)
closed_at (x ∷ xs) zero rises lt = either (is_start x.0 x.0) (is_closed xs x.0) (start_itself x.0) ∙ closed_next x.0 xs rises.0 rises.2
closed_at (x ∷ xs) (suc i) rises lt = either (is_start (anchor_at xs i) x.0) (is_closed xs (anchor_at xs i)) (start_above (anchor_at xs i) x.0 (above_at x.0 xs i (omega arith) rises.0)) ∙ closed_at xs i rises.2 (omega arith)

-- the next anchor goes on from this one where it is above it and begins with it
pub start_begins : (a b : List ℕ) → is_below a b ≡ true → starts_with nat_eq b a ≡ is_start a b
start_begins [] [] below = absurd (true≢false (sym below))
start_begins [] (y ∷ b) below = refl
start_begins (x ∷ a) [] below = refl
start_begins (x ∷ a) (y ∷ b) below = elim (below_heads x y a b below) [
  | inl less ↦
      let ne : x ≢ y = λ e. omega arith in
      ap (λ t. t && starts_with nat_eq b a) (ne_eqb x y ne) ∙ sym (ap (λ t. t && is_start a b) (ne_eqb x y ne))
  | inr tied ↦ ap (λ t. eqb x y && t) (start_begins a b tied.1)
]

-- which anchors are closed in the list W
abbrev Marks : Anchors → Anchors → Type 0
Marks W xs = AllByRecursion (λ (y : List ℕ × ℕ). (a : List ℕ) → is_start a y.0 ≡ true → is_closed W a ≡ true) xs

marks_more : (x : List ℕ × ℕ) (W xs : Anchors) → Marks W xs → Marks (x ∷ W) xs
marks_more x W xs marks = all_weaker (λ (y : List ℕ × ℕ). (a : List ℕ) → is_start a y.0 ≡ true → is_closed W a ≡ true) (λ (y : List ℕ × ℕ). (a : List ℕ) → is_start a y.0 ≡ true → is_closed (x ∷ W) a ≡ true) (λ y h a start. second (is_start a x.0) (is_closed W a) (h a start)) xs marks
  where
    second : (p q : Bool) → q ≡ true → (p || q) ≡ true
    second true q e = refl
    second false q e = e

marks_all : (A : Anchors) → Marks A A
marks_all [] = tt
marks_all (x ∷ xs) = (λ a start. ap (λ b. b || is_closed xs a) start, marks_more x xs xs (marks_all xs))

apart_strings : (a b : List ℕ) → is_below a b ≡ true → a ≢ b
apart_strings a b below = λ e. true≢false (sym below ∙ (ap (λ z. is_below z b) e ∙ not_below_itself b))

-- one anchor before all others
closed_first : (W : Anchors) (x : List ℕ × ℕ) (ys : Anchors) → ((a : List ℕ) → is_start a x.0 ≡ true → is_closed W a ≡ true) → Marks W ys → AllByRecursion (λ (y : List ℕ × ℕ). is_below x.0 y.0 ≡ true) ys
    → AllByRecursion (IsApart (closed (is_closed W x.0) x.0)) (map (λ (y : List ℕ × ℕ). closed (is_closed W y.0) y.0) ys)
closed_first W x [] mark marks above = tt
closed_first W x (y ∷ ys) mark marks above =
    let f = is_closed W x.0 in
    let g = is_closed W y.0 in
    let ne : x.0 ≢ y.0 = apart_strings x.0 y.0 above.0 in (
      record {
        below = ap is_lt (closed_order f g x.0 y.0 ne (λ start. marks.0 x.0 start) (λ start. mark y.0 start)) ∙ above.0;
        first = no_prefix f g x.0 y.0 ne (λ start. marks.0 x.0 start);
        second = no_prefix g f y.0 x.0 (λ e. ne (sym e)) (λ start. mark y.0 start);
      },
      closed_first W x ys mark marks.1 above.1,
    )

closed_all : (W A : Anchors) → Marks W A → Rises A → IsPrefixFree (map (λ (y : List ℕ × ℕ). closed (is_closed W y.0) y.0) A)
closed_all W [] marks rises = tt
closed_all W (x ∷ xs) marks rises = (closed_first W x xs marks.0 marks.1 rises.0, closed_all W xs marks.1 rises.2)

-- the closed anchors keep the order, and none is a prefix of another
pub closed_anchors_apart : (A : Anchors) → Rises A → IsPrefixFree (closed_anchors A)
closed_anchors_apart A rises = closed_all A A (marks_all A) rises
