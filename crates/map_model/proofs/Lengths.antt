-- How many pairs a map has after a change of one key.
use Rattle.std.proofs.Common.{◌≡◌, ℕ, ◌+◌, List, [], ◌∷◌, length, length-append, Bool, true, false, cond, not, is_some, Some, None, ap, ◌∙◌, subst, arith}
use Rattle.std.specs.List.{AllByRecursion}
use Rattle.key_bytes.specs.Order.{is_below, is_same}
use Rattle.key_bytes.proofs.Orders.{placed, less, same, more, same_itself, below_not_same, below_not_same_back, below_not_back, not_below_itself}
use Rattle.map_model.specs.Maps.{Pairs, IsMap, find, keep, with, without}
use Rattle.map_model.proofs.Finds.{find_above}

abbrev one_if : Bool → ℕ
one_if found = cond found 1 0

module _ {V : Type 0} where
  -- the pairs below a key, above it and at it are all
  parted : (m : Pairs V) → IsMap m → (key : List ℕ) → length (keep (λ k. is_below k key) m) + length (keep (λ k. is_below key k) m) + one_if (is_some (find m key)) ≡ length m
  parted [] up key = omega arith
  parted (x ∷ m) up key =
      let lows = keep (λ k. is_below k key) m in
      let highs = keep (λ k. is_below key k) m in
      let ih : length lows + length highs + one_if (is_some (find m key)) ≡ length m = parted m up.1 key in
      let at : Bool → Bool → Bool → ℕ = λ a b c. length (cond a (x ∷ lows) lows) + length (cond b (x ∷ highs) highs) + one_if (is_some (cond c (Some x.1) (find m key))) in
      elim (placed x.0 key) [
        | less h ↦
            let e : at (is_below x.0 key) (is_below key x.0) (is_same x.0 key) ≡ at true false false =
            ap (λ a. at a (is_below key x.0) (is_same x.0 key)) h ∙ (ap (λ b. at true b (is_same x.0 key)) (below_not_back x.0 key h) ∙ ap (λ c. at true false c) (below_not_same x.0 key h)) in
            e ∙ omega (arith, ih)
        | more h ↦
            let e : at (is_below x.0 key) (is_below key x.0) (is_same x.0 key) ≡ at false true false =
            ap (λ a. at a (is_below key x.0) (is_same x.0 key)) (below_not_back key x.0 h) ∙ (ap (λ b. at false b (is_same x.0 key)) h ∙ ap (λ c. at false true c) (below_not_same_back key x.0 h)) in
            e ∙ omega (arith, ih)
        | same h ↦
            let none : find m key ≡ None = find_above m key (subst (λ k. AllByRecursion (λ (q : List ℕ × V). is_below k q.0 ≡ true) m) h up.0) in
            let zero_more : one_if (is_some (find m key)) ≡ 0 = ap (λ o. one_if (is_some o)) none in
            let e : at (is_below x.0 key) (is_below key x.0) (is_same x.0 key) ≡ at false false true =
            ap (λ a. at a (is_below key x.0) (is_same x.0 key)) (subst (λ k. is_below x.0 k ≡ false) h (not_below_itself x.0)) ∙ (ap (λ b. at false b (is_same x.0 key)) (subst (λ k. is_below k x.0 ≡ false) h (not_below_itself x.0))
            ∙ ap (λ c. at false false c) (subst (λ k. is_same x.0 k ≡ true) h (same_itself x.0))) in
            e ∙ omega (arith, ih, zero_more)
      ]

  pub length_with : (m : Pairs V) → IsMap m → (key : List ℕ) (value : V) → length (with m key value) ≡ cond (is_some (find m key)) (length m) (length m + 1)
  length_with m up key value =
      let lows = keep (λ k. is_below k key) m in
      let highs = keep (λ k. is_below key k) m in
      let whole = length-append lows ((key, value) ∷ highs) in
      let all = parted m up key in
      elim (is_some (find m key)) as (λ b. length lows + length highs + one_if b ≡ length m → length (with m key value) ≡ cond b (length m) (length m + 1)) [
        | true ↦ λ h. omega (arith, h, whole)
        | false ↦ λ h. omega (arith, h, whole)
      ] all

  pub length_without : (m : Pairs V) → IsMap m → (key : List ℕ) → length (without m key) + cond (is_some (find m key)) 1 0 ≡ length m
  length_without [] up key = omega arith
  length_without (x ∷ m) up key =
      let rest = without m key in
      let ih : length rest + one_if (is_some (find m key)) ≡ length m = length_without m up.1 key in
      let at : Bool → ℕ = λ c. length (cond (not c) (x ∷ rest) rest) + one_if (is_some (cond c (Some x.1) (find m key))) in
      elim (placed x.0 key) [
        | less h ↦ ap at (below_not_same x.0 key h) ∙ omega (arith, ih)
        | more h ↦ ap at (below_not_same_back key x.0 h) ∙ omega (arith, ih)
        | same h ↦
            let none : find m key ≡ None = find_above m key (subst (λ k. AllByRecursion (λ (q : List ℕ × V). is_below k q.0 ≡ true) m) h up.0) in
            let zero_more : one_if (is_some (find m key)) ≡ 0 = ap (λ o. one_if (is_some o)) none in
            ap at (subst (λ k. is_same x.0 k ≡ true) h (same_itself x.0)) ∙ omega (arith, ih, zero_more)
      ]
