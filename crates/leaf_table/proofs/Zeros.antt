-- Words that are all 0.
use Rattle.std.proofs.Common.{◌≡◌, ℕ, zero, suc, replicate, refl}
use Rattle.std.specs.Prelude.{slice_index}

-- each of them is, and so is what is read past them
pub zeros_read : (n x : ℕ) → slice_index (replicate {A = ℕ} n 0) x ≡ 0
zeros_read zero x = refl
zeros_read (suc n) zero = refl
zeros_read (suc n) (suc x) = zeros_read n x
