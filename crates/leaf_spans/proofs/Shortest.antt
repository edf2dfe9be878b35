-- No shorter beginning of a key is above another than the one that parts them.
use Rattle.std.proofs.Common.{◌≡◌, ℕ, zero, suc, ◌+◌, ◌-◌, ◌<◌, ◌≤◌, List, [], ◌∷◌, length, take, Bool, true, false, cond, refl, sym, ap, ◌∙◌, arith, eq-eqb, ne_eqb}
use mathlib.Core.Logic.{dite}
use native.Mathlib.Decide.{ℕ_discrete}
use Rattle.key_bytes.specs.Common.{lcp}
use Rattle.key_bytes.specs.Order.{is_below}
use Rattle.key_bytes.proofs.Separators.{separator_length, separator_within}
use Rattle.map_model.specs.Halves.{key_at, stay_count, parting}
use Rattle.map_model.specs.Maps.{Pairs, IsMap}
use Rattle.map_model.proofs.Halves.{parting_ascends}

-- two lists begin alike up to their common prefix
same_front : (a b : List ℕ) (n : ℕ) → n ≤ lcp a b → take n b ≡ take n a
same_front a b zero le = refl
same_front [] b (suc n) le = absurd (omega arith)
same_front (x ∷ a) [] (suc n) le = absurd (omega arith)
same_front (x ∷ a) (y ∷ b) (suc n) le = dite (ℕ_discrete x y)
    (λ same.
    let longer : lcp (x ∷ a) (y ∷ b) ≡ lcp a b + 1 = ap (λ t. cond t (lcp a b + 1) 0) (eq-eqb x y same) in
    ap (λ z. z ∷ take n b) (sym same) ∙ ap (λ l. x ∷ l) (same_front a b n (omega (arith, longer, le))))
    (λ ne. let none : lcp (x ∷ a) (y ∷ b) ≡ 0 = ap (λ t. cond t (lcp a b + 1) 0) (ne_eqb x y ne) in absurd (omega (arith, none, le)))

pub parting_shortest : {V : Type 0} (m : Pairs V) → IsMap m → 1 < length m → (n : ℕ) → n < length (parting m) → is_below (key_at m (stay_count (length m) - 1)) (take n (key_at m (stay_count (length m)))) ≡ false
parting_shortest m up many n less =
    let low = key_at m (stay_count (length m) - 1) in
    let high = key_at m (stay_count (length m)) in
    let long : length (parting m) ≡ lcp low high + 1 = separator_length low high (parting_ascends m up many) in
    ap (is_below low) (same_front low high n (omega (arith, long, less))) ∙ separator_within low n
