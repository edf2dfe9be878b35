-- Binary digits, and a search by halves.
use Rattle.std.proofs.Common.{◌≡◌, ℕ, ◌+◌, ◌*◌, ◌^◌, ◌<◌, ◌≤◌, inl, inr, Bool, true, false, cond, zero, suc, refl, ap, arith}
use Rattle.std.specs.Prelude.{nat_le, codes, [], ◌∷◌}
use Rattle.std.proofs.Math.Nat.{pow-suc}
use Rattle.std.proofs.lemmas.Nat.{pow_pos, pow_below}
use Rattle.std.proofs.lemmas.Bool.{cases_order}
use Rattle.std.proofs.lemmas.Bool.Decides.{nat_tests}
use Rattle.prefix_search.specs.Search.{digits, bound}

le_true : (m n : ℕ) → nat_le m n ≡ true → m ≤ n
le_true m n h = grind (arith, nat_tests)

le_false : (m n : ℕ) → nat_le m n ≡ false → n < m
le_false m n h = grind (arith, nat_tests)

-- a number is below the power of its digits
pub below_digits : (n : ℕ) → n < 2 ^ digits n
unfolding digits
below_digits zero = pow_pos 0
below_digits (suc n) = elim (nat_le (2 ^ digits n) (suc n)) as (λ (s : Bool). nat_le (2 ^ digits n) (suc n) ≡ s → suc n < 2 ^ cond s (digits n + 1) (digits n)) [
  | true ↦ λ e. more (digits n) (below_digits n)
  | false ↦ λ e. le_false (2 ^ digits n) (suc n) e
] refl
  where
    more : (d : ℕ) → n < 2 ^ d → suc n < 2 ^ (d + 1)
    more d lt = let e : 2 ^ (d + 1) ≡ 2 ^ suc d = ap (λ (m : ℕ). 2 ^ m) (omega arith) in omega (arith, pow-suc 2 d, pow_pos d, lt)

-- and of no lower one
pub digits_least : (n d : ℕ) → n < 2 ^ d → digits n ≤ d
unfolding digits
digits_least zero d lt = omega arith
digits_least (suc n) d lt = elim (nat_le (2 ^ digits n) (suc n)) as (λ (s : Bool). nat_le (2 ^ digits n) (suc n) ≡ s → cond s (digits n + 1) (digits n) ≤ d) [
  | true ↦ λ e. elim (cases_order (digits n) d) [
    | inl same ↦ absurd (omega (arith, le_true (2 ^ digits n) (suc n) e, ap (λ (m : ℕ). 2 ^ m) same, lt))
    | inr r ↦ elim r [ inl less ↦ omega arith | inr more ↦ absurd (omega (arith, le_true (2 ^ digits n) (suc n) e, pow_below d (digits n) more, lt)) ]
  ]
  | false ↦ λ e. digits_least n d (omega arith)
] refl

-- what is left of a search costs at most c for each digit
pub record Left (width steps most c : ℕ) : Type 0 where
  pub digits : ℕ
  pub narrow : width < 2 ^ digits
  pub paid : steps + digits * c ≤ most

-- a look leaves a digit less to search: n of them wherever one more was enough before
abbrev pub IsLess : ℕ → ℕ → Type 0
IsLess width width' = (n : ℕ) → width < 2 * 2 ^ n → width' < 2 ^ n

less_of : (digits width steps most c width' steps' : ℕ) → width < 2 ^ digits → steps + digits * c ≤ most → 0 < width → IsLess width width' → steps' ≤ steps + c → Left width' steps' most c
less_of zero width steps most c width' steps' narrow paid some less cost = absurd (omega arith)
less_of (suc n) width steps most c width' steps' narrow paid some less cost =
    let two = pow-suc 2 n in
    record { digits = n; narrow = less n (omega (arith, two, narrow)); paid = grind arith }

-- a look that costs at most c takes a digit off
pub left_less : (width steps most c width' steps' : ℕ) → Left width steps most c → 0 < width → IsLess width width' → steps' ≤ steps + c → Left width' steps' most c
left_less width steps most c width' steps' l some less cost = less_of l.digits width steps most c width' steps' l.narrow l.paid some less cost

power_le : (x y : ℕ) → x ≤ y → 2 ^ x ≤ 2 ^ y
power_le x y le = elim (cases_order x y) [
  | inl same ↦ omega (arith, ap (λ (m : ℕ). 2 ^ m) same)
  | inr r ↦ elim r [ inl less ↦ let p = pow_below x y less in omega arith | inr more ↦ absurd (omega arith) ]
]

-- the top digit of a width that is below a power is of no greater power
pub top_within : (j n width : ℕ) → 2 ^ j ≤ width → width < 2 * 2 ^ n → 2 ^ j ≤ 2 ^ n
top_within j n width low high = elim (cases_order j n) [
  | inl same ↦ power_le j n (omega arith)
  | inr r ↦ elim r [
    | inl less ↦ power_le j n (omega arith)
    | inr more ↦ absurd (omega (arith, power_le (suc n) j (omega arith), pow-suc 2 n, low, high))
  ]
]

-- the bound for the key `Josephine` among the empty anchor, `Jo` and `Jos`
pub worked_bound : (c : ℕ) → bound (([], 0) ∷ (codes "Jo", 1) ∷ (codes "Jos", 2) ∷ []) (codes "Josephine") c ≡ 3 * c + 4
unfolding digits
worked_bound c = refl
