-- A range of a list that grows by one.
use Rattle.std.proofs.Common.{◌≡◌, ℕ, zero, suc, ◌+◌, ◌<◌, List, [], ◌∷◌, ◌++◌, length, get_or, take, refl, ap, arith}
use native.Mathlib.Numerals.{unary_clauses}

-- one more element of a range
pub take_push : {X : Type 0} → (xs : List X) (n : ℕ) (d : X) → n < length xs → take (n + 1) xs ≡ take n xs ++ get_or xs n d ∷ []
take_push [] n d lt = absurd (omega (arith, lt))
take_push (x ∷ xs) zero d lt = refl
take_push (x ∷ xs) (suc n) d lt = simp unary_clauses (ap (λ ys. x ∷ ys) (simp unary_clauses at (take_push xs n d (omega (arith, lt)))))
