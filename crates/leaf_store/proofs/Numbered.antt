-- The numbers below a bound, each once, in any order.
use Rattle.std.proofs.Common.{◌≡◌, ℕ, zero, suc, ◌+◌, ◌<◌, ◌≤◌, List, [], ◌∷◌, Bool, true, false, cond, eqb, refl, sym, ap, ◌∙◌, length, get_or, set, map, arith, ◌≢◌, eq-eqb, get_or-set_other}
use mathlib.Core.Logic.{dite}
use native.Mathlib.Decide.{ℕ_discrete}
use Rattle.std.specs.List.{range_with_len, swap}
use Rattle.std.specs.List.Sorted.{IsPermutation}
use Rattle.std.proofs.Math.ListN.{get_or-map, length-set}
use Rattle.std.proofs.lemmas.Bool.{ne_eqb}
use Rattle.std.proofs.lemmas.Bool.Decides.{nat_tests}
use Rattle.std.proofs.lemmas.Grind.{get_or_default_zero}
use Rattle.std.proofs.lemmas.List.{map-set}
use Rattle.std.proofs.lemmas.List.Edits.{swap_is, swapped_from_swap, length-swap}
use Rattle.std.proofs.lemmas.List.FromFn.{length-range_with_len, get_or-range_with_len}
use Rattle.std.proofs.lemmas.List.Sorted.{IsPermutation-keeps, length_permutation, All-permutation, Contains-permutation}

-- no number stands twice
abbrev pub Differ : List ℕ → Type 0
Differ xs = (j k : ℕ) → j < length xs → k < length xs → get_or xs j 0 ≡ get_or xs k 0 → j ≡ k

-- a place after an exchange of two
abbrev exchanged : ℕ → ℕ → ℕ → ℕ
exchanged a b m = cond (eqb m a) b (cond (eqb m b) a m)

exchanged_once : (a b j k : ℕ) → exchanged a b j ≡ exchanged a b k → j ≡ k
exchanged_once a b j k e = grind (arith, nat_tests)

exchanged_below : (a b m n : ℕ) → a < n → b < n → m < n → exchanged a b m < n
exchanged_below a b m n la lb lm = grind (arith, nat_tests)

get_or-swap : (xs : List ℕ) (a b m : ℕ) → a < length xs → b < length xs → get_or (swap xs a b) m 0 ≡ get_or xs (exchanged a b m) 0
get_or-swap xs a b m la lb =
    let s = swapped_from_swap xs (swap xs a b) a b 0 la lb refl in
    dite (ℕ_discrete m a)
    (λ e. ap (λ k. get_or (swap xs a b) k 0) e ∙ (s.0 ∙ sym (ap (λ t. get_or xs (cond t b (cond (eqb m b) a m)) 0) (eq-eqb m a e))))
    (λ n. dite (ℕ_discrete m b)
    (λ e. ap (λ k. get_or (swap xs a b) k 0) e ∙ (s.1 ∙ sym (ap (λ t. get_or xs (cond t b (cond (eqb m b) a m)) 0) (ne_eqb m a n) ∙ ap (λ t. get_or xs (cond t a m) 0) (eq-eqb m b e))))
    (λ o. s.2 m n o ∙ sym (ap (λ t. get_or xs (cond t b (cond (eqb m b) a m)) 0) (ne_eqb m a n) ∙ ap (λ t. get_or xs (cond t a m) 0) (ne_eqb m b o))))

differ_swap : (xs : List ℕ) (a b : ℕ) → a < length xs → b < length xs → Differ xs → Differ (swap xs a b)
differ_swap xs a b la lb once j k lj lk e =
    let size : length (swap xs a b) ≡ length xs = length-swap xs a b in
    exchanged_once a b j k (once (exchanged a b j) (exchanged a b k)
    (exchanged_below a b j (length xs) la lb (omega arith))
    (exchanged_below a b k (length xs) la lb (omega arith))
    (sym (get_or-swap xs a b j la lb) ∙ (e ∙ get_or-swap xs a b k la lb)))

differ_range : (n : ℕ) → Differ (range_with_len 0 n)
differ_range n j k lj lk e =
    let size = length-range_with_len 0 n in
    let a = get_or-range_with_len 0 n j 0 (omega arith) in
    let b = get_or-range_with_len 0 n k 0 (omega arith) in
    omega arith

module _ (n : ℕ) (xs : List ℕ) (p : IsPermutation (range_with_len 0 n) xs) where
  pub length-numbered : length xs ≡ n
  length-numbered = length_permutation (range_with_len 0 n) xs p ∙ length-range_with_len 0 n

  pub numbered_differ : Differ xs
  numbered_differ = IsPermutation-keeps (range_with_len 0 n) Differ (differ_range n) (λ l i j li lj once. differ_swap l i j li lj once) xs p

  pub numbered_below : (k : ℕ) → k < n → get_or xs k 0 < n
  numbered_below k lt =
      let all = All-permutation (λ x. x < n) (range_with_len 0 n) xs p (λ i d li. (let size = length-range_with_len 0 n in let e = get_or-range_with_len 0 n i d (omega arith) in omega arith)) in
      all k 0 (omega (arith, length-numbered))

  -- each number is there
  pub numbered_at : (x : ℕ) → x < n → (k : ℕ) × (k < n) × (get_or xs k 0 ≡ x)
  numbered_at x lt =
      let e : get_or (range_with_len 0 n) x x ≡ x = omega (arith, get_or-range_with_len 0 n x x lt) in
      let has = Contains-permutation (range_with_len 0 n) xs x p (x, omega (arith, length-range_with_len 0 n), e) in
      (has.0, (let h = has.1 in omega (arith, length-numbered)), sym (get_or_default_zero xs has.0 x has.1) ∙ has.2)

pub map_swap : {X Y : Type 0} (f : X → Y) (xs : List X) (i j : ℕ) → map f (swap xs i j) ≡ swap (map f xs) i j
map_swap f [] i j = refl
map_swap f (d ∷ ys) i j =
    let xs = d ∷ ys in
    map-set f (set xs i (get_or xs j d)) j (get_or xs i d)
    ∙ (ap (λ l. set l j (f (get_or xs i d))) (map-set f xs i (get_or xs j d))
    ∙ (ap (λ y. set (set (map f xs) i y) j (f (get_or xs i d))) (sym (get_or-map f xs j d))
    ∙ ap (λ y. set (set (map f xs) i (get_or (map f xs) j (f d))) j y) (sym (get_or-map f xs i d))))

abbrev pub missed : Bool → ℕ
missed true = 0
missed false = 1

-- how many numbers aren't at the place that each names
abbrev pub unsettled : ℕ → List ℕ → ℕ
unsettled k [] = 0
unsettled k (x ∷ xs) = missed (eqb x k) + unsettled (k + 1) xs

missed_one : (b : Bool) → missed b ≤ 1
missed_one true = omega arith
missed_one false = omega arith

unsettled_set : (k : ℕ) (xs : List ℕ) (i y : ℕ) → i < length xs → unsettled k (set xs i y) + missed (eqb (get_or xs i 0) (k + i)) ≡ unsettled k xs + missed (eqb y (k + i))
unsettled_set k [] i y lt = absurd (omega arith)
unsettled_set k (x ∷ xs) zero y lt = let e : k + 0 ≡ k = omega arith in rw (e) (omega arith)
unsettled_set k (x ∷ xs) (suc i) y lt = let e : k + suc i ≡ k + 1 + i = omega arith in rw (e) (let h = unsettled_set (k + 1) xs i y (omega arith) in omega arith)

-- an exchange that puts a number at its place
pub unsettled_falls : (xs : List ℕ) → Differ xs → (i r : ℕ) → i < length xs → r < length xs → get_or xs i 0 ≡ r → r ≢ i → unsettled 0 (swap xs i r) < unsettled 0 xs
unsettled_falls xs once i r li lr e ne =
    let there = get_or xs r 0 in
    let half = set xs i there in
    let apart : there ≢ r = λ h. ne (sym (once i r li lr (e ∙ sym h))) in
    let size : length half ≡ length xs = length-set xs i there in
    let same : get_or half r 0 ≡ there = get_or-set_other xs i r there 0 ne in
    let a = unsettled_set 0 xs i there li in
    let b = unsettled_set 0 half r r (omega arith) in
    let a0 : missed (eqb (get_or xs i 0) (0 + i)) ≡ 1 = ap missed (ne_eqb (get_or xs i 0) (0 + i) (λ h. ne (omega arith))) in
    let a1 : missed (eqb there (0 + i)) ≤ 1 = missed_one (eqb there (0 + i)) in
    let b0 : missed (eqb (get_or half r 0) (0 + r)) ≡ 1 = ap missed (ne_eqb (get_or half r 0) (0 + r) (λ h. apart (omega arith))) in
    let b1 : missed (eqb r (0 + r)) ≡ 0 = ap missed (eq-eqb r (0 + r) (omega arith)) in
    let whole : set half r r ≡ swap xs i r = ap (set half r) (sym e) ∙ swap_is xs i r 0 li lr in
    let moved : unsettled 0 (set half r r) ≡ unsettled 0 (swap xs i r) = ap (unsettled 0) whole in
    omega arith

-- which leaves those that are at theirs
pub own_kept : (xs : List ℕ) → Differ xs → (i r k : ℕ) → i < length xs → r < length xs → get_or xs i 0 ≡ r → k < i → get_or xs k 0 ≡ k → get_or (swap xs i r) k 0 ≡ k
own_kept xs once i r k li lr e lt own =
    let s = swapped_from_swap xs (swap xs i r) i r 0 li lr refl in
    s.2 k (λ h. absurd (omega arith)) (λ h. absurd (let same : k ≡ i = once k i (omega arith) li (own ∙ (h ∙ sym e)) in omega arith)) ∙ own
