-- Prefixes of byte strings, and the order.
use Rattle.std.proofs.Common.{◌≡◌, ℕ, ◌+◌, ◌<◌, ◌≤◌, inl, inr, List, [], ◌∷◌, ◌++◌, length, take, get_or, Bool, true, false, refl, sym, ap, ◌∙◌, subst, arith, eqb-true, cond, zero, suc, length-take}
use Rattle.std.specs.Prelude.{◌==◌, ◌&&◌, nat_le}
use mathlib.Core.Bool.{false≢true}
use Rattle.std.specs.Ordering.{nat_cmp, is_lt, ordering_then}
use Rattle.std.specs.declared.cmp.Ordering.{Ordering}
use Rattle.std.specs.declared.cmp.Ordering.TheVariants.{Less, Equal, Greater}
use Rattle.std.proofs.lemmas.Bool.{cases_order}
use Rattle.std.proofs.lemmas.Bool.Decides.{nat_tests}
use Rattle.std.proofs.lemmas.List.{append-nil, take_all}
use Rattle.key_bytes.specs.Common.{lcp}
use Rattle.key_bytes.specs.Order.{bytes_cmp, is_below, is_same}
use Rattle.key_bytes.proofs.Orders.{below_trans, not_below_itself, not_below_empty, same_is, same_itself}
use Rattle.anchor_rules.specs.Items.{begins}

cmp_less : (x y : ℕ) → x < y → nat_cmp x y ≡ Less
cmp_less x y l = grind (arith, nat_tests)

cmp_same : (x : ℕ) → nat_cmp x x ≡ Equal
cmp_same x = grind (arith, nat_tests)

cmp_more : (x y : ℕ) → y < x → nat_cmp x y ≡ Greater
cmp_more x y l = grind (arith, nat_tests)

same_number : (i : ℕ) → (i == i) ≡ true
same_number i = grind (arith, nat_tests)

-- strings with different first bytes
pub heads_less : (x y : ℕ) (a b : List ℕ) → x < y → is_below (x ∷ a) (y ∷ b) ≡ true
heads_less x y a b l = ap (λ (o : Ordering). is_lt (ordering_then o (bytes_cmp a b))) (cmp_less x y l)

pub heads_more : (x y : ℕ) (a b : List ℕ) → y < x → is_below (x ∷ a) (y ∷ b) ≡ false
heads_more x y a b l = ap (λ (o : Ordering). is_lt (ordering_then o (bytes_cmp a b))) (cmp_more x y l)

pub heads_same : (x : ℕ) (a b : List ℕ) → is_below (x ∷ a) (x ∷ b) ≡ is_below a b
heads_same x a b = ap (λ (o : Ordering). is_lt (ordering_then o (bytes_cmp a b))) (cmp_same x)

-- a common prefix counts for nothing
pub below_after : (p a b : List ℕ) → is_below (p ++ a) (p ++ b) ≡ is_below a b
below_after [] a b = refl
below_after (x ∷ p) a b = heads_same x (p ++ a) (p ++ b) ∙ below_after p a b

-- a prefix is below what goes on from it, and not the other way round
pub below_longer : (p : List ℕ) (d : ℕ) (t : List ℕ) → is_below p (p ++ d ∷ t) ≡ true
below_longer p d t = ap (λ (z : List ℕ). is_below z (p ++ d ∷ t)) (sym (append-nil p)) ∙ below_after p [] (d ∷ t)

pub not_below_prefix : (p rest : List ℕ) → is_below (p ++ rest) p ≡ false
not_below_prefix p rest = ap (is_below (p ++ rest)) (sym (append-nil p)) ∙ below_after p rest [] ∙ not_below_empty rest

begins_same : (x y : ℕ) (p a : List ℕ) → begins (x ∷ p) (y ∷ a) ≡ false → x ≡ y → begins p a ≡ false
begins_same x y p a h e = elim (begins p a) as (λ (t : Bool). begins p a ≡ t → begins p a ≡ false) [
  | true ↦ λ t. absurd (false≢true (sym h ∙ ap (λ (z : ℕ). (x == z) && begins p a) (sym e) ∙ ap (λ (s : Bool). s && begins p a) (same_number x) ∙ t))
  | false ↦ λ t. t
] refl

-- what begins with a prefix is the prefix and something more
pub begins_is : (p a : List ℕ) → begins p a ≡ true → (t : List ℕ) × (a ≡ p ++ t)
begins_is [] a h = (a, refl)
begins_is (x ∷ p) [] h = absurd (false≢true h)
begins_is (x ∷ p) (y ∷ a) h = elim (x == y) as (λ (s : Bool). (x == y) ≡ s → s && begins p a ≡ true → (t : List ℕ) × (y ∷ a ≡ x ∷ (p ++ t))) [
  | true ↦ λ e more. let rest = begins_is p a more in let same : x ≡ y = eqb-true x y e in (rest.0, ap (λ (z : ℕ). z ∷ a) (sym same) ∙ ap (λ (l : List ℕ). x ∷ l) rest.1)
  | false ↦ λ e more. absurd (false≢true more)
] refl h

pub begins_longer : (p t : List ℕ) → begins p (p ++ t) ≡ true
begins_longer [] t = refl
begins_longer (x ∷ p) t = ap (λ (s : Bool). s && begins p (p ++ t)) (same_number x) ∙ begins_longer p t

pub begins_itself : (p : List ℕ) → begins p p ≡ true
begins_itself p = ap (begins p) (sym (append-nil p)) ∙ begins_longer p []

-- a prefix of a prefix is one
pub begins_shorter : (p t a : List ℕ) → begins (p ++ t) a ≡ true → begins p a ≡ true
begins_shorter [] t a h = refl
begins_shorter (x ∷ p) t [] h = absurd (false≢true h)
begins_shorter (x ∷ p) t (y ∷ a) h = elim (x == y) as (λ (s : Bool). s && begins (p ++ t) a ≡ true → s && begins p a ≡ true) [
  | true ↦ λ more. begins_shorter p t a more
  | false ↦ λ more. more
] h

pub begins_not_longer : (p t a : List ℕ) → begins p a ≡ false → begins (p ++ t) a ≡ false
begins_not_longer p t a h = elim (begins (p ++ t) a) as (λ (s : Bool). begins (p ++ t) a ≡ s → s ≡ false) [
  | true ↦ λ e. absurd (false≢true (sym h ∙ begins_shorter p t a e))
  | false ↦ λ e. refl
] refl

pub begins_same_string : (p a : List ℕ) → is_same p a ≡ true → begins p a ≡ true
begins_same_string p a h = ap (begins p) (sym (same_is p a h)) ∙ begins_itself p

pub not_same_not_begun : (p a : List ℕ) → begins p a ≡ false → is_same p a ≡ false
not_same_not_begun p a h = elim (is_same p a) as (λ (s : Bool). is_same p a ≡ s → s ≡ false) [
  | true ↦ λ e. absurd (false≢true (sym h ∙ begins_same_string p a e))
  | false ↦ λ e. refl
] refl

-- a prefix of one string begins another one exactly as far as the two go together
pub begins_lcp : (p a b : List ℕ) → begins p a ≡ true → begins p b ≡ nat_le (length p) (lcp a b)
begins_lcp [] a b h = at_least (lcp a b)
  where
    at_least : (n : ℕ) → true ≡ nat_le 0 n
    at_least n = grind (arith, nat_tests)
begins_lcp (x ∷ p) [] b h = absurd (false≢true h)
begins_lcp (x ∷ p) (y ∷ a) [] h = grind (arith, nat_tests)
begins_lcp (x ∷ p) (y ∷ a) (z ∷ b) h = elim (x == y) as (λ (s : Bool). (x == y) ≡ s → s && begins p a ≡ true → (x == z) && begins p b ≡ nat_le (suc (length p)) (cond (y == z) (lcp a b + 1) 0)) [
  | true ↦ λ e more.
      let same : x ≡ y = eqb-true x y e in
      let rest = begins_lcp p a b more in
      ap (λ (w : ℕ). (w == z) && begins p b) same ∙ (elim (y == z) as (λ (s : Bool). s && begins p b ≡ nat_le (suc (length p)) (cond s (lcp a b + 1) 0)) [
        | true ↦ rest ∙ up (length p) (lcp a b)
        | false ↦ none (length p)
      ])
  | false ↦ λ e more. absurd (false≢true more)
] refl h
  where
    up : (m n : ℕ) → nat_le m n ≡ nat_le (suc m) (n + 1)
    up m n = grind (arith, nat_tests)

    none : (m : ℕ) → false ≡ nat_le (suc m) 0
    none m = grind (arith, nat_tests)

pub lcp_sym : (a b : List ℕ) → lcp a b ≡ lcp b a
lcp_sym [] [] = refl
lcp_sym [] (y ∷ b) = refl
lcp_sym (x ∷ a) [] = refl
lcp_sym (x ∷ a) (y ∷ b) = ap (λ (n : ℕ). cond (x == y) (n + 1) 0) (lcp_sym a b) ∙ ap (λ (s : Bool). cond s (lcp b a + 1) 0) (swapped x y)
  where
    swapped : (x y : ℕ) → (x == y) ≡ (y == x)
    swapped x y = grind (arith, nat_tests)

pub lcp_short : (a b : List ℕ) → lcp a b ≤ length a
lcp_short [] b = omega arith
lcp_short (x ∷ a) [] = omega arith
lcp_short (x ∷ a) (y ∷ b) = let rest = lcp_short a b in elim (x == y) as (λ (s : Bool). cond s (lcp a b + 1) 0 ≤ length (x ∷ a)) [ true ↦ omega arith | false ↦ omega arith ]

-- what is above a prefix and doesn't begin with it is above all that begins with it
pub past_prefix : (p b s : List ℕ) → is_below p b ≡ true → begins p b ≡ false → is_below (p ++ s) b ≡ true
past_prefix [] b s above other = absurd (false≢true (sym other))
past_prefix (x ∷ p) [] s above other = absurd (false≢true above)
past_prefix (x ∷ p) (y ∷ b) s above other = elim (cases_order x y) [
  | inl e ↦
      let over : is_below p b ≡ true = sym (heads_same x p b) ∙ subst (λ (z : ℕ). is_below (x ∷ p) (z ∷ b) ≡ true) (sym e) above in
      subst (λ (z : ℕ). is_below (x ∷ (p ++ s)) (z ∷ b) ≡ true) e (heads_same x (p ++ s) b ∙ past_prefix p b s over (begins_same x y p b other e))
  | inr r ↦ elim r [
    | inl l ↦ heads_less x y (p ++ s) b l
    | inr m ↦ absurd (false≢true (sym (heads_more x y p b m) ∙ above))
  ]
]

-- what is below something that begins with a prefix and doesn't begin with it is below all that begins with it
pub ahead_prefix : (p b s t : List ℕ) → is_below b (p ++ s) ≡ true → begins p b ≡ false → is_below b (p ++ t) ≡ true
ahead_prefix [] b s t below other = absurd (false≢true (sym other))
ahead_prefix (x ∷ p) [] s t below other = refl
ahead_prefix (x ∷ p) (y ∷ b) s t below other = elim (cases_order y x) [
  | inl e ↦
      let under : is_below b (p ++ s) ≡ true = sym (heads_same x b (p ++ s)) ∙ subst (λ (z : ℕ). is_below (z ∷ b) (x ∷ (p ++ s)) ≡ true) e below in
      subst (λ (z : ℕ). is_below (z ∷ b) (x ∷ (p ++ t)) ≡ true) (sym e) (heads_same x b (p ++ t) ∙ ahead_prefix p b s t under (begins_same x y p b other (sym e)))
  | inr r ↦ elim r [
    | inl l ↦ heads_less y x b (p ++ t) l
    | inr m ↦ absurd (false≢true (sym (heads_more y x b (p ++ s) m) ∙ below))
  ]
]

-- what stands between two strings with a common prefix has it too
pub begins_between : (p a b c : List ℕ) → begins p a ≡ true → begins p c ≡ true → is_below a b ≡ true → is_below b c ≡ true → begins p b ≡ true
begins_between p a b c low high above below = elim (begins p b) as (λ (s : Bool). begins p b ≡ s → s ≡ true) [
  | true ↦ λ e. refl
  | false ↦ λ other.
      let first = begins_is p a low in
      let last = begins_is p c high in
      let ahead : is_below b a ≡ true = ap (is_below b) first.1 ∙ ahead_prefix p b last.0 first.0 (ap (is_below b) (sym last.1) ∙ below) other in
      absurd (false≢true (sym (not_below_itself a) ∙ below_trans a b a above ahead))
] refl

-- the first bytes of a string
pub begins_take : (n : ℕ) (a : List ℕ) → begins (take n a) a ≡ true
begins_take zero a = refl
begins_take (suc n) [] = refl
begins_take (suc n) (x ∷ a) = ap (λ (s : Bool). s && begins (take n a) a) (same_number x) ∙ begins_take n a

pub begins_is_take : (p a : List ℕ) → begins p a ≡ true → take (length p) a ≡ p
begins_is_take [] a h = refl
begins_is_take (x ∷ p) [] h = absurd (false≢true h)
begins_is_take (x ∷ p) (y ∷ a) h = elim (x == y) as (λ (s : Bool). (x == y) ≡ s → s && begins p a ≡ true → y ∷ take (length p) a ≡ x ∷ p) [
  | true ↦ λ e more. ap (λ (z : ℕ). z ∷ take (length p) a) (sym (eqb-true x y e)) ∙ ap (λ (l : List ℕ). x ∷ l) (begins_is_take p a more)
  | false ↦ λ e more. absurd (false≢true more)
] refl h

-- one byte more of it
pub begins_byte : (n : ℕ) (a : List ℕ) (c : ℕ) → n < length a → begins (take n a ++ c ∷ []) a ≡ (c == get_or a n 0)
begins_byte n [] c lt = absurd (omega arith)
begins_byte zero (x ∷ a) c lt = last (c == x)
  where
    last : (s : Bool) → (s && true) ≡ s
    last true = refl
    last false = refl
begins_byte (suc n) (x ∷ a) c lt = ap (λ (s : Bool). s && begins (take n a ++ c ∷ []) a) (same_number x) ∙ begins_byte n a c (omega arith)

pub begins_past : (n : ℕ) (a : List ℕ) (c : ℕ) → length a ≤ n → begins (take n a ++ c ∷ []) a ≡ false
begins_past n [] c le = start n
  where
    start : (n : ℕ) → begins (take n [] ++ c ∷ []) [] ≡ false
    start zero = refl
    start (suc n) = refl
begins_past zero (x ∷ a) c le = absurd (omega arith)
begins_past (suc n) (x ∷ a) c le = ap (λ (s : Bool). s && begins (take n a ++ c ∷ []) a) (same_number x) ∙ begins_past n a c (omega arith)

pub same_take : (n : ℕ) (a : List ℕ) → n ≤ length a → is_same (take n a) a ≡ (n == length a)
same_take n a le = elim (is_same (take n a) a) as (λ (s : Bool). is_same (take n a) a ≡ s → s ≡ (n == length a)) [
  | true ↦ λ e. let long = ap (λ (l : List ℕ). length l) (same_is (take n a) a e) in whole (omega (arith, long, length-take n a))
  | false ↦ λ e. part (λ same. false≢true (sym e ∙ (ap (λ (l : List ℕ). is_same l a) (take_all n a (omega arith)) ∙ same_itself a)))
] refl
  where
    whole : n ≡ length a → true ≡ (n == length a)
    whole same = grind (arith, nat_tests)

    part : (n ≡ length a → ⊥) → false ≡ (n == length a)
    part apart = grind (arith, nat_tests)

-- the first bytes of one string begin another exactly as far as the two go together
pub begins_take_lcp : (n : ℕ) (a b : List ℕ) → n ≤ length a → begins (take n a) b ≡ nat_le n (lcp a b)
begins_take_lcp n a b le = begins_lcp (take n a) a b (begins_take n a) ∙ ap (λ (m : ℕ). nat_le m (lcp a b)) (omega (arith, length-take n a))
