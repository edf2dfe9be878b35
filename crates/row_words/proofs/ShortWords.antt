-- Fewer than eight bytes, compared with a word four or two at a time.
use Rattle.std.proofs.Common.{◌≡◌, ℕ, zero, suc, ◌+◌, ◌*◌, ◌/◌, ◌%◌, ◌^◌, ◌<◌, List, get_or, sym, ap, ◌∙◌, arith}
use Rattle.std.proofs.lemmas.Nat.{shr-shr}

-- byte j of a word from a place on
shifted : (w from j : ℕ) → w / 2 ^ (8 * from) / 2 ^ (8 * j) % 256 ≡ w / 2 ^ (8 * (from + j)) % 256
shifted w from j =
    let e : 8 * from + 8 * j ≡ 8 * (from + j) = omega arith in
    ap (λ (x : ℕ). x % 256) (shr-shr w (8 * from) (8 * j)) ∙ ap (λ (k : ℕ). w / 2 ^ k % 256) e

-- the bytes of four, one by one
four_bytes : (v f : ℕ) (byte : ℕ → ℕ) → v % 4294967296 ≡ f → f % 256 ≡ byte 0 → f / 256 % 256 ≡ byte 1 → f / 65536 % 256 ≡ byte 2 → f / 16777216 ≡ byte 3 → (j : ℕ) → j < 4 → v / 2 ^ (8 * j) % 256 ≡ byte j
four_bytes v f byte e first second third fourth zero l = omega (arith, e, first)
four_bytes v f byte e first second third fourth (suc zero) l = omega (arith, e, second)
four_bytes v f byte e first second third fourth (suc (suc zero)) l = omega (arith, e, third)
four_bytes v f byte e first second third fourth (suc (suc (suc zero))) l = omega (arith, e, fourth)
four_bytes v f byte e first second third fourth (suc (suc (suc (suc j)))) l = absurd (omega (arith, l))

pub four_there : (w from f : ℕ) (bs : List ℕ) → w / 2 ^ (8 * from) % 4294967296 ≡ f → f % 256 ≡ get_or bs from 0 → f / 256 % 256 ≡ get_or bs (from + 1) 0 → f / 65536 % 256 ≡ get_or bs (from + 2) 0 → f / 16777216 ≡ get_or bs (from + 3) 0 → (j : ℕ) → j < 4 → w / 2 ^ (8 * (from + j)) % 256 ≡ get_or bs (from + j) 0
four_there w from f bs e first second third fourth j l =
    let start : from + 0 ≡ from = omega arith in
    sym (shifted w from j) ∙ four_bytes (w / 2 ^ (8 * from)) f (λ (k : ℕ). get_or bs (from + k) 0) e (first ∙ ap (λ (k : ℕ). get_or bs k 0) (sym start)) second third fourth j l

pub four_same : (w from f : ℕ) (bs : List ℕ) → f < 2 ^ 32 → f % 256 ≡ get_or bs from 0 → f / 256 % 256 ≡ get_or bs (from + 1) 0 → f / 65536 % 256 ≡ get_or bs (from + 2) 0 → f / 16777216 ≡ get_or bs (from + 3) 0 → ((j : ℕ) → j < 4 → w / 2 ^ (8 * (from + j)) % 256 ≡ get_or bs (from + j) 0) → w / 2 ^ (8 * from) % 4294967296 ≡ f
four_same w from f bs small first second third fourth here =
    let v : ℕ = w / 2 ^ (8 * from) in
    let start : from + 0 ≡ from = omega arith in
    let zeroth : v / 1 % 256 ≡ get_or bs from 0 = shifted w from 0 ∙ here 0 (omega arith) ∙ ap (λ (k : ℕ). get_or bs k 0) start in
    let one : v / 256 % 256 ≡ get_or bs (from + 1) 0 = shifted w from 1 ∙ here 1 (omega arith) in
    let two : v / 65536 % 256 ≡ get_or bs (from + 2) 0 = shifted w from 2 ∙ here 2 (omega arith) in
    let three : v / 16777216 % 256 ≡ get_or bs (from + 3) 0 = shifted w from 3 ∙ here 3 (omega arith) in
    omega (arith, small, first, second, third, fourth, zeroth, one, two, three)

-- the bytes of two, one by one
two_bytes : (v : ℕ) (byte : ℕ → ℕ) → byte 0 < 256 → byte 1 < 256 → v % 65536 ≡ byte 0 + byte 1 * 256 → (j : ℕ) → j < 2 → v / 2 ^ (8 * j) % 256 ≡ byte j
two_bytes v byte a b e zero l = omega (arith, a, b, e)
two_bytes v byte a b e (suc zero) l = omega (arith, a, b, e)
two_bytes v byte a b e (suc (suc j)) l = absurd (omega (arith, l))

pub two_there : (w from : ℕ) (bs : List ℕ) → get_or bs from 0 < 256 → get_or bs (from + 1) 0 < 256 → w / 2 ^ (8 * from) % 65536 ≡ get_or bs from 0 + get_or bs (from + 1) 0 * 256 → (j : ℕ) → j < 2 → w / 2 ^ (8 * (from + j)) % 256 ≡ get_or bs (from + j) 0
two_there w from bs a b e j l =
    let start : get_or bs (from + 0) 0 ≡ get_or bs from 0 = ap (λ (k : ℕ). get_or bs k 0) (omega arith) in
    sym (shifted w from j) ∙ two_bytes (w / 2 ^ (8 * from)) (λ (k : ℕ). get_or bs (from + k) 0) (omega (arith, a, start)) b (omega (arith, e, start)) j l

pub two_same : (w from : ℕ) (bs : List ℕ) → get_or bs from 0 < 256 → get_or bs (from + 1) 0 < 256 → ((j : ℕ) → j < 2 → w / 2 ^ (8 * (from + j)) % 256 ≡ get_or bs (from + j) 0) → w / 2 ^ (8 * from) % 65536 ≡ get_or bs from 0 + get_or bs (from + 1) 0 * 256
two_same w from bs a b here =
    let v : ℕ = w / 2 ^ (8 * from) in
    let start : from + 0 ≡ from = omega arith in
    let zeroth : v / 1 % 256 ≡ get_or bs from 0 = shifted w from 0 ∙ here 0 (omega arith) ∙ ap (λ (k : ℕ). get_or bs k 0) start in
    let one : v / 256 % 256 ≡ get_or bs (from + 1) 0 = shifted w from 1 ∙ here 1 (omega arith) in
    omega (arith, a, b, zeroth, one)
