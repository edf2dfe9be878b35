-- A list of four numbers by its places.
use Rattle.std.proofs.Common.{◌≡◌, ℕ, List, [], ◌∷◌, length, get_or, arith, refl}

pub four : (bits : List ℕ) → length bits ≡ 4 → get_or bits 0 0 ∷ get_or bits 1 0 ∷ get_or bits 2 0 ∷ get_or bits 3 0 ∷ [] ≡ bits
four [] n = absurd (omega (arith, n))
four (a ∷ []) n = absurd (omega (arith, n))
four (a ∷ b ∷ []) n = absurd (omega (arith, n))
four (a ∷ b ∷ c ∷ []) n = absurd (omega (arith, n))
four (a ∷ b ∷ c ∷ d ∷ []) n = refl
four (a ∷ b ∷ c ∷ d ∷ e ∷ more) n = absurd (omega (arith, n))
