-- The greatest bit below a place.
use Rattle.std.proofs.Common.{◌≡◌, ℕ, ◌+◌, ◌*◌, ◌/◌, ◌%◌, ◌^◌, ◌<◌, ◌≤◌, inl, inr, List, get_or, Bool, true, false, cond, zero, suc, Option, Some, None, refl, sym, ap, ◌∙◌, subst, arith}
use Rattle.std.specs.Prelude.{◌==◌}
use Rattle.std.proofs.lemmas.Nat.{pow_pos, pow_below, mod-pow-add}
use Rattle.std.proofs.lemmas.Bool.{cases_order}
use Rattle.std.proofs.lemmas.Bool.Decides.{nat_tests}
use Rattle.anchor_rules.specs.Items.{greatest_below}
use Rattle.anchor_rules.proofs.Ends.{greatest_some}
use Rattle.meta_trie.specs.Trie.{bit_of}

abbrev pub word_bit : ℕ → ℕ → Bool
word_bit w j = w / 2 ^ j % 2 == 1

-- a number's lowest bits, with one more
one_more : (w b : ℕ) → w % 2 ^ suc b ≡ (w / 2 ^ b % 2) * 2 ^ b + w % 2 ^ b
one_more w b = ap (λ (n : ℕ). w % 2 ^ n) (omega arith) ∙ mod-pow-add w 1 b

bit_set : (w b : ℕ) → word_bit w b ≡ true → w % 2 ^ suc b ≡ 2 ^ b + w % 2 ^ b
bit_set w b h = one_more w b ∙ (ap (λ (n : ℕ). n * 2 ^ b + w % 2 ^ b) (is_one (w / 2 ^ b % 2) h) ∙ omega arith)
  where
    is_one : (n : ℕ) → (n == 1) ≡ true → n ≡ 1
    is_one n h = grind (arith, nat_tests)

bit_clear : (w b : ℕ) → word_bit w b ≡ false → w % 2 ^ suc b ≡ w % 2 ^ b
bit_clear w b h = one_more w b ∙ (ap (λ (n : ℕ). n * 2 ^ b + w % 2 ^ b) (is_zero (w / 2 ^ b % 2) (omega arith) h) ∙ omega arith)
  where
    is_zero : (n : ℕ) → n < 2 → (n == 1) ≡ false → n ≡ 0
    is_zero n l h = grind (arith, nat_tests)

low_below : (w b : ℕ) → w % 2 ^ b < 2 ^ b
low_below w b = let p = pow_pos b in omega arith

pub no_bit : (w b : ℕ) → w % 2 ^ b ≡ 0 → greatest_below (word_bit w) b ≡ None
no_bit w zero h = refl
no_bit w (suc b) h = elim (word_bit w b) as (λ (s : Bool). word_bit w b ≡ s → cond s (Some b) (greatest_below (word_bit w) b) ≡ None) [
  | true ↦ λ e. absurd (omega (arith, bit_set w b e, pow_pos b, h))
  | false ↦ λ e. no_bit w b (sym (bit_clear w b e) ∙ h)
] refl

-- the number of binary places tells the one place that a power has
one_place : (j b n : ℕ) → 2 ^ j ≤ n → n < 2 ^ suc j → 2 ^ b ≤ n → n < 2 ^ suc b → b ≡ j
one_place j b n lj uj lb ub = elim (cases_order b j) [
  | inl same ↦ same
  | inr r ↦ elim r [
    | inl less ↦ absurd (omega (arith, power_le (suc b) j (omega arith), lj, ub))
    | inr more ↦ absurd (omega (arith, power_le (suc j) b (omega arith), lb, uj))
  ]
]
  where
    power_le : (x y : ℕ) → x ≤ y → 2 ^ x ≤ 2 ^ y
    power_le x y le = elim (cases_order x y) [
      | inl same ↦ omega (arith, ap (λ (m : ℕ). 2 ^ m) same)
      | inr r ↦ elim r [ inl less ↦ let p = pow_below x y less in omega arith | inr more ↦ absurd (omega arith) ]
    ]

pub top_bit : (w b j : ℕ) → 2 ^ j ≤ w % 2 ^ b → w % 2 ^ b < 2 ^ suc j → greatest_below (word_bit w) b ≡ Some j
top_bit w zero j low high = absurd (omega (arith, low_below w 0, pow_pos j, low))
top_bit w (suc b) j low high = elim (word_bit w b) as (λ (s : Bool). word_bit w b ≡ s → cond s (Some b) (greatest_below (word_bit w) b) ≡ Some j) [
  | true ↦ λ e. ap (λ (n : ℕ). Some n) (one_place j b (w % 2 ^ suc b) low high (let s = bit_set w b e in omega arith) (low_below w (suc b)))
  | false ↦ λ e. let s = bit_clear w b e in top_bit w b j (subst (λ (n : ℕ). 2 ^ j ≤ n) s low) (subst (λ (n : ℕ). n < 2 ^ suc j) s high)
] refl

-- bits of several words
pub greatest_found : (test : ℕ → Bool) (from n j : ℕ) → greatest_below (λ e. test (from + e)) n ≡ Some j → greatest_below test (from + n) ≡ Some (from + j)
greatest_found test from zero j h = absurd (cc)
greatest_found test from (suc n) j h = ap (greatest_below test) (next from n) ∙ (elim (test (from + n)) as (λ (s : Bool). cond s (Some n) (greatest_below (λ e. test (from + e)) n) ≡ Some j → cond s (Some (from + n)) (greatest_below test (from + n)) ≡ Some (from + j)) [
  | true ↦ λ e. ap (λ (m : ℕ). Some (from + m)) (some_is n j e)
  | false ↦ λ e. greatest_found test from n j e
] h)
  where
    next : (from n : ℕ) → from + suc n ≡ suc (from + n)
    next from n = omega arith

    some_is : (x y : ℕ) → Some x ≡ Some y → x ≡ y
    some_is x y e = cc

pub greatest_none_in : (test : ℕ → Bool) (from n : ℕ) → greatest_below (λ e. test (from + e)) n ≡ None → greatest_below test (from + n) ≡ greatest_below test from
greatest_none_in test from zero h = ap (greatest_below test) (omega arith)
greatest_none_in test from (suc n) h = ap (greatest_below test) (next from n) ∙ (elim (test (from + n)) as (λ (s : Bool). cond s (Some n) (greatest_below (λ e. test (from + e)) n) ≡ None → cond s (Some (from + n)) (greatest_below test (from + n)) ≡ greatest_below test from) [
  | true ↦ λ e. absurd (cc)
  | false ↦ λ e. greatest_none_in test from n e
] h)
  where
    next : (from n : ℕ) → from + suc n ≡ suc (from + n)
    next from n = omega arith

pub greatest_same : (f g : ℕ → Bool) (n : ℕ) → ((e : ℕ) → e < n → f e ≡ g e) → greatest_below f n ≡ greatest_below g n
greatest_same f g zero same = refl
greatest_same f g (suc n) same = ap (λ (s : Bool). cond s (Some n) (greatest_below f n)) (same n (omega arith)) ∙ ap (λ (o : Option ℕ). cond (g n) (Some n) o) (greatest_same f g n (λ e l. same e (omega arith)))

-- a bit of a bitmap of words
pub bit_in_word : (bits : List ℕ) (w e : ℕ) → e < 64 → bit_of bits (64 * w + e) ≡ word_bit (get_or bits w 0) e
bit_in_word bits w e lt =
    let which : (64 * w + e) / 64 ≡ w = omega arith in
    let place : (64 * w + e) % 64 ≡ e = omega arith in
    ap (λ (v : ℕ). get_or bits v 0 / 2 ^ ((64 * w + e) % 64) % 2 == 1) which ∙ ap (λ (v : ℕ). get_or bits w 0 / 2 ^ v % 2 == 1) place

in_word : (bits : List ℕ) (w end : ℕ) → end ≤ 64 → greatest_below (λ e. bit_of bits (64 * w + e)) end ≡ greatest_below (word_bit (get_or bits w 0)) end
in_word bits w end le = greatest_same (λ e. bit_of bits (64 * w + e)) (word_bit (get_or bits w 0)) end (λ e l. bit_in_word bits w e (omega arith))

pub word_found : (bits : List ℕ) (w end j : ℕ) → end ≤ 64 → greatest_below (word_bit (get_or bits w 0)) end ≡ Some j → greatest_below (bit_of bits) (64 * w + end) ≡ Some (64 * w + j)
word_found bits w end j le h = greatest_found (bit_of bits) (64 * w) end j (in_word bits w end le ∙ h)

pub word_none : (bits : List ℕ) (w end : ℕ) → end ≤ 64 → greatest_below (word_bit (get_or bits w 0)) end ≡ None → greatest_below (bit_of bits) (64 * w + end) ≡ greatest_below (bit_of bits) (64 * w)
word_none bits w end le h = greatest_none_in (bit_of bits) (64 * w) end (in_word bits w end le ∙ h)

-- a bit that was found is below the place
pub greatest_lower : (test : ℕ → Bool) (n j : ℕ) → greatest_below test n ≡ Some j → j < n
greatest_lower test n j h = (greatest_some test n j h).below
