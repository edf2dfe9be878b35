-- Bytes that were copied one by one.
use Rattle.std.proofs.Common.{◌≡◌, ◌≢◌, ℕ, suc, ◌+◌, ◌<◌, ◌≤◌, inl, inr, List, [], ◌∷◌, length, take, get_or, sym, ap, ◌∙◌, refl, arith, get_or-set_other, get_or-set_same}
use Rattle.std.proofs.Math.ListN.{set}
use Rattle.std.proofs.lemmas.Bool.{cases_order}

-- one more was copied
pub copied_more : (xs ys : List ℕ) (i v : ℕ) → i < length xs → ((j : ℕ) → j < i → get_or xs j 0 ≡ get_or ys j 0) → v ≡ get_or ys i 0 → (j : ℕ) → j < i + 1 → get_or (set xs i v) j 0 ≡ get_or ys j 0
copied_more xs ys i v room same here j lt = elim (cases_order j i) [
  | inl at ↦ ap (λ (x : ℕ). get_or (set xs i v) x 0) at ∙ get_or-set_same xs i v 0 room ∙ here ∙ ap (λ (x : ℕ). get_or ys x 0) (sym at)
  | inr r ↦ elim r [
    | inl below ↦ (let ne : j ≢ i = λ e. omega (arith, e, below) in get_or-set_other xs i j v 0 ne ∙ same j below)
    | inr past ↦ absurd (omega (arith, past, lt))
  ]
]

-- all were copied
pub copied : (xs ys : List ℕ) → length ys ≤ length xs → ((j : ℕ) → j < length ys → get_or xs j 0 ≡ get_or ys j 0) → take (length ys) xs ≡ ys
copied [] [] l s = refl
copied (x ∷ xs) [] l s = refl
copied [] (y ∷ ys) l s = absurd (omega (arith, l))
copied (x ∷ xs) (y ∷ ys) l s =
    let first : x ≡ y = s 0 (omega arith) in
    let rest : take (length ys) xs ≡ ys = copied xs ys (omega (arith, l)) (λ j m. s (suc j) (omega (arith, m))) in
    λ i. first i ∷ rest i
