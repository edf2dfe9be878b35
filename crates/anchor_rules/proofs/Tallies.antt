-- The four changes that keep the count.
use Rattle.std.proofs.Common.{◌≡◌, ℕ, ◌+◌, ◌-◌, ◌*◌, ◌/◌, ◌<◌, ◌≤◌, List, [], ◌∷◌, ◌++◌, length, length-append, sym, ap, ◌∙◌, arith}
use Rattle.std.proofs.Math.Nat.{mul-le-mul_left}
use Rattle.anchor_rules.specs.Tally.{excess, Tally}

pub excess_append : (h : ℕ) (xs ys : List ℕ) → excess h (xs ++ ys) ≡ excess h xs + excess h ys
excess_append h [] ys = omega arith
excess_append h (c ∷ xs) ys = omega (arith, excess_append h xs ys)

-- one size, of no keys
pub tally_first : (h : ℕ) → Tally (0 ∷ []) h 0 0
tally_first h = record { grown = omega arith; changed = omega arith }

module _ (front back : List ℕ) (h p v : ℕ) where
  -- a size and the number of new keys grow by one
  pub tally_grows : (c : ℕ) → Tally (front ++ c ∷ back) h p v → Tally (front ++ (c + 1) ∷ back) h (p + 1) v
  tally_grows c t =
      let len : length (front ++ (c + 1) ∷ back) ≡ length (front ++ c ∷ back) = length-append front ((c + 1) ∷ back) ∙ sym (length-append front (c ∷ back)) in
      let x = excess_append h front (c ∷ back) in
      let y = excess_append h front ((c + 1) ∷ back) in
      let a : h * (length (front ++ (c + 1) ∷ back) - 1) ≡ h * (length (front ++ c ∷ back) - 1) = ap (λ n. h * (n - 1)) len in
      let b : h * (v + length (front ++ (c + 1) ∷ back) - 1) ≡ h * (v + length (front ++ c ∷ back) - 1) = ap (λ n. h * (v + n - 1)) len in
      let g = t.grown in
      let k = t.changed in
      record { grown = omega arith; changed = omega arith }

  -- a size falls
  pub tally_falls : (c d : ℕ) → d ≤ c → Tally (front ++ c ∷ back) h p v → Tally (front ++ d ∷ back) h p v
  tally_falls c d le t =
      let len : length (front ++ d ∷ back) ≡ length (front ++ c ∷ back) = length-append front (d ∷ back) ∙ sym (length-append front (c ∷ back)) in
      let x = excess_append h front (c ∷ back) in
      let y = excess_append h front (d ∷ back) in
      let a : h * (length (front ++ d ∷ back) - 1) ≡ h * (length (front ++ c ∷ back) - 1) = ap (λ n. h * (n - 1)) len in
      let b : h * (v + length (front ++ d ∷ back) - 1) ≡ h * (v + length (front ++ c ∷ back) - 1) = ap (λ n. h * (v + n - 1)) len in
      let g = t.grown in
      let k = t.changed in
      record { grown = omega arith; changed = omega arith }

  -- a size is cut in two
  pub tally_splits : (c : ℕ) → 2 * h < c → Tally (front ++ c ∷ back) h p v → Tally (front ++ (c + 1) / 2 ∷ (c - (c + 1) / 2) ∷ back) h p (v + 1)
  tally_splits c large t =
      let k : ℕ = length front + length back in
      let half : ℕ = (c + 1) / 2 in
      let len : length (front ++ c ∷ back) ≡ k + 1 = length-append front (c ∷ back) ∙ omega arith in
      let len' : length (front ++ half ∷ (c - half) ∷ back) ≡ k + 2 = length-append front (half ∷ (c - half) ∷ back) ∙ omega arith in
      let x = excess_append h front (c ∷ back) in
      let y = excess_append h front (half ∷ (c - half) ∷ back) in
      let a : h * (length (front ++ c ∷ back) - 1) ≡ h * k = ap (λ n. h * (n - 1)) len ∙ ap (λ n. h * n) (omega arith) in
      let a' : h * (length (front ++ half ∷ (c - half) ∷ back) - 1) ≡ h * (k + 1) = ap (λ n. h * (n - 1)) len' ∙ ap (λ n. h * n) (omega arith) in
      let b : h * (v + length (front ++ c ∷ back) - 1) ≡ h * (v + k) = ap (λ n. h * (v + n - 1)) len ∙ ap (λ n. h * n) (omega arith) in
      let b' : h * (v + 1 + length (front ++ half ∷ (c - half) ∷ back) - 1) ≡ h * (v + k + 2) = ap (λ n. h * (v + 1 + n - 1)) len' ∙ ap (λ n. h * n) (omega arith) in
      let g = t.grown in
      let l = t.changed in
      record { grown = omega arith; changed = omega arith }

  -- two small sizes become one
  pub tally_merges : (c d : ℕ) → c + d ≤ h → Tally (front ++ c ∷ d ∷ back) h p v → Tally (front ++ (c + d) ∷ back) h p (v + 1)
  tally_merges c d small t =
      let k : ℕ = length front + length back in
      let len : length (front ++ c ∷ d ∷ back) ≡ k + 2 = length-append front (c ∷ d ∷ back) ∙ omega arith in
      let len' : length (front ++ (c + d) ∷ back) ≡ k + 1 = length-append front ((c + d) ∷ back) ∙ omega arith in
      let x = excess_append h front (c ∷ d ∷ back) in
      let y = excess_append h front ((c + d) ∷ back) in
      let a : h * (length (front ++ c ∷ d ∷ back) - 1) ≡ h * (k + 1) = ap (λ n. h * (n - 1)) len ∙ ap (λ n. h * n) (omega arith) in
      let a' : h * (length (front ++ (c + d) ∷ back) - 1) ≡ h * k = ap (λ n. h * (n - 1)) len' ∙ ap (λ n. h * n) (omega arith) in
      let b : h * (v + length (front ++ c ∷ d ∷ back) - 1) ≡ h * (v + k + 1) = ap (λ n. h * (v + n - 1)) len ∙ ap (λ n. h * n) (omega arith) in
      let b' : h * (v + 1 + length (front ++ (c + d) ∷ back) - 1) ≡ h * (v + k + 1) = ap (λ n. h * (v + 1 + n - 1)) len' ∙ ap (λ n. h * n) (omega arith) in
      let g = t.grown in
      let l = t.changed in
      record { grown = omega arith; changed = omega arith }

-- more new keys, and fewer changes of anchors
pub tally_looser : (sizes : List ℕ) (h p q v w : ℕ) → p ≤ q → w ≤ v → Tally sizes h p v → Tally sizes h q w
tally_looser sizes h p q v w more less t =
    let g = t.grown in
    let c = t.changed in
    let f : h * (w + length sizes - 1) ≤ h * (v + length sizes - 1) = mul-le-mul_left h (omega arith) in
    record { grown = omega arith; changed = omega arith }
