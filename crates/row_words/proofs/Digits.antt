-- A word by its eight bytes.
use Rattle.std.proofs.Common.{◌≡◌, ℕ, ◌*◌, ◌/◌, ◌%◌, ◌^◌, ◌<◌, arith}

-- numbers of 64 bits whose bytes are the same are the same
pub digits_same : (a b : ℕ) → a < 2 ^ 64 → b < 2 ^ 64 → ((j : ℕ) → j < 8 → a / 2 ^ (8 * j) % 256 ≡ b / 2 ^ (8 * j) % 256) → a ≡ b
digits_same a b la lb h =
    let d7 : a / 72057594037927936 % 256 ≡ b / 72057594037927936 % 256 = h 7 (omega arith) in
    let d6 : a / 281474976710656 % 256 ≡ b / 281474976710656 % 256 = h 6 (omega arith) in
    let d5 : a / 1099511627776 % 256 ≡ b / 1099511627776 % 256 = h 5 (omega arith) in
    let d4 : a / 4294967296 % 256 ≡ b / 4294967296 % 256 = h 4 (omega arith) in
    let d3 : a / 16777216 % 256 ≡ b / 16777216 % 256 = h 3 (omega arith) in
    let d2 : a / 65536 % 256 ≡ b / 65536 % 256 = h 2 (omega arith) in
    let d1 : a / 256 % 256 ≡ b / 256 % 256 = h 1 (omega arith) in
    let d0 : a / 1 % 256 ≡ b / 1 % 256 = h 0 (omega arith) in
    let e7 : a / 72057594037927936 ≡ b / 72057594037927936 = omega (arith, d7, la, lb) in
    let e6 : a / 281474976710656 ≡ b / 281474976710656 = omega (arith, d6, e7) in
    let e5 : a / 1099511627776 ≡ b / 1099511627776 = omega (arith, d5, e6) in
    let e4 : a / 4294967296 ≡ b / 4294967296 = omega (arith, d4, e5) in
    let e3 : a / 16777216 ≡ b / 16777216 = omega (arith, d3, e4) in
    let e2 : a / 65536 ≡ b / 65536 = omega (arith, d2, e3) in
    let e1 : a / 256 ≡ b / 256 = omega (arith, d1, e2) in
    omega (arith, d0, e1)
