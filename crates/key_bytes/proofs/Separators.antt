-- The common prefix, and the shortest start of one key that is above another.
use Rattle.std.proofs.Common.{◌≡◌, ℕ, ◌+◌, ◌<◌, ◌≤◌, List, [], ◌∷◌, length, zero, suc, refl, sym, ap, ◌∙◌, arith, cond, take, drop, length-take, get_or, true, false, add-one, ne_eqb, eq-eqb}
use Rattle.std.specs.declared.cmp.Ordering.TheVariants.{Less, Equal, Greater}
use Rattle.std.specs.Ordering.{nat_cmp, ordering_then, is_lt}
use Rattle.std.specs.Cmp.Lexicographic.{slice_cmp}
use Rattle.std.proofs.lemmas.Cmp.{ranked, nat_cmp_total, tied_itself}
use Rattle.key_bytes.specs.Common.{lcp}
use Rattle.key_bytes.specs.Order.{is_below}
use Rattle.key_bytes.proofs.Orders.{less_from}

lcp_nil : (a : List ℕ) → lcp a [] ≡ 0
lcp_nil [] = refl
lcp_nil (x ∷ a) = refl

pub short_left : (a b : List ℕ) (i : ℕ) → length a ≤ i → lcp (drop i a) (drop i b) ≡ 0
short_left [] b zero h = refl
short_left [] b (suc i) h = refl
short_left (x ∷ a) b zero h = absurd (omega arith)
short_left (x ∷ a) [] (suc i) h = lcp_nil (drop i a)
short_left (x ∷ a) (y ∷ b) (suc i) h = short_left a b i (omega arith)

pub short_right : (a b : List ℕ) (i : ℕ) → length b ≤ i → lcp (drop i a) (drop i b) ≡ 0
short_right a [] zero h = lcp_nil a
short_right [] [] (suc i) h = refl
short_right (x ∷ a) [] (suc i) h = lcp_nil (drop i a)
short_right a (y ∷ b) zero h = absurd (omega arith)
short_right [] (y ∷ b) (suc i) h = refl
short_right (x ∷ a) (y ∷ b) (suc i) h = short_right a b i (omega arith)

pub apart : (a b : List ℕ) (i : ℕ) → i < length a → i < length b → (get_or a i 0 ≡ get_or b i 0 → ⊥) → lcp (drop i a) (drop i b) ≡ 0
apart [] b i la lb ne = absurd (omega arith)
apart (x ∷ a) [] i la lb ne = absurd (omega arith)
apart (x ∷ a) (y ∷ b) zero la lb ne = ap (λ t. cond t (lcp a b + 1) 0) (ne_eqb x y ne)
apart (x ∷ a) (y ∷ b) (suc i) la lb ne = apart a b i (omega arith) (omega arith) ne

step_same : (x y : ℕ) (a b : List ℕ) → x ≡ y → lcp (x ∷ a) (y ∷ b) ≡ suc (lcp a b)
step_same x y a b e = ap (λ t. cond t (lcp a b + 1) 0) (eq-eqb x y e) ∙ add-one (lcp a b)

step_apart : (x y : ℕ) (a b : List ℕ) → (x ≡ y → ⊥) → lcp (x ∷ a) (y ∷ b) ≡ 0
step_apart x y a b ne = ap (λ t. cond t (lcp a b + 1) 0) (ne_eqb x y ne)

-- the shortest start of b that is above a
pub separates : (a b : List ℕ) → slice_cmp nat_cmp a b ≡ Less → record { short : lcp a b < length b; above : slice_cmp nat_cmp a (take (suc (lcp a b)) b) ≡ Less }
separates [] [] less = absurd cc
separates [] (y ∷ b) less = record { short = omega arith; above = refl }
separates (x ∷ a) [] less = absurd cc
separates (x ∷ a) (y ∷ b) less =
    elim (nat_cmp x y) as (λ o. nat_cmp x y ≡ o → ordering_then o (slice_cmp nat_cmp a b) ≡ Less → record { short : lcp (x ∷ a) (y ∷ b) < length (y ∷ b); above : slice_cmp nat_cmp (x ∷ a) (take (suc (lcp (x ∷ a) (y ∷ b))) (y ∷ b)) ≡ Less }) [
      | Less ↦ λ e h.
          let lt : x < y = ranked x y Less (sym e) in
          let z = step_apart x y a b (λ same. omega arith) in
          record { short = omega arith; above = ap (λ n. ordering_then (nat_cmp x y) (slice_cmp nat_cmp a (take n b))) z ∙ ap (λ o. ordering_then o (slice_cmp nat_cmp a [])) e }
      | Equal ↦ λ e h.
          let same : x ≡ y = ranked x y Equal (sym e) in
          let rest = separates a b h in
          let z = step_same x y a b same in
          let less : lcp a b < length b = rest.short in
          record { short = omega arith; above = ap (λ n. ordering_then (nat_cmp x y) (slice_cmp nat_cmp a (take n b))) z ∙ (ap (λ o. ordering_then o (slice_cmp nat_cmp a (take (suc (lcp a b)) b))) e ∙ rest.above) }
      | Greater ↦ λ e h. absurd cc
    ] refl less

-- a start isn't above the whole
pub start_not_above : (b : List ℕ) (n : ℕ) → is_lt (slice_cmp nat_cmp b (take n b)) ≡ false
start_not_above [] zero = refl
start_not_above [] (suc n) = refl
start_not_above (y ∷ b) zero = refl
start_not_above (y ∷ b) (suc n) = ap (λ o. is_lt (ordering_then o (slice_cmp nat_cmp b (take n b)))) (tied_itself nat_cmp_total y) ∙ start_not_above b n

-- the same of the tests that contracts have
pub separator_short : (a b : List ℕ) → is_below a b ≡ true → lcp a b < length b
separator_short a b below = (separates a b (less_from _ below)).short

pub separator_length : (a b : List ℕ) → is_below a b ≡ true → length (take (lcp a b + 1) b) ≡ lcp a b + 1
separator_length a b below = let short = separator_short a b below in omega (arith, length-take (lcp a b + 1) b)

pub separator_above : (a b : List ℕ) → is_below a b ≡ true → is_below a (take (lcp a b + 1) b) ≡ true
separator_above a b below = ap (λ n. is_below a (take n b)) (add-one (lcp a b)) ∙ ap is_lt (separates a b (less_from _ below)).above

pub separator_within : (b : List ℕ) (n : ℕ) → is_below b (take n b) ≡ false
separator_within b n = start_not_above b n
