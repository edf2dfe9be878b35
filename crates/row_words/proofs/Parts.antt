-- Words in two parts: the lower 16 bits, and the rest.
use Rattle.std.proofs.Common.{◌≡◌, ℕ, ◌+◌, ◌*◌, ◌/◌, ◌%◌, ◌^◌, ◌<◌, List, length, get_or, replicate, inl, inr, refl, sym, ◌∙◌, arith, get_or-set_other, get_or-set_same}
use Rattle.std.proofs.Math.ListN.{set}
use Rattle.std.proofs.lemmas.Bool.{cases_eq, cases_lt}
use Rattle.std.proofs.lemmas.List.{length-set, set_past, length-replicate, get_or-replicate, get_or_past}
use Rattle.std.proofs.lemmas.List.FromFn.{fill_by_all, get_or-map-range_with_len, length-map-range_with_len}
use Rattle.row_words.specs.Parts.{from_parts, from_parts_at}

pub parts_many : (low high : List ℕ) → length (from_parts low high) ≡ length low
parts_many low high = length-map-range_with_len (from_parts_at low high) 0 (length low)

pub parts_get : (low high : List ℕ) (i : ℕ) → i < length low → get_or (from_parts low high) i 0 ≡ from_parts_at low high i
parts_get low high i l = get_or-map-range_with_len (from_parts_at low high) 0 (length low) i i 0 l (omega arith)

-- a word's lower 32 bits are its low part and 16 bits of the high one
pub parts_lower : (low high : List ℕ) (i : ℕ) → i < length low → get_or low i 0 < 2 ^ 16 → get_or (from_parts low high) i 0 % 2 ^ 32 ≡ get_or low i 0 + get_or high i 0 % 65536 * 65536
parts_lower low high i l small = omega (arith, parts_get low high i l)

-- parts of 0
pub parts_zeros : (n : ℕ) → from_parts (replicate n 0) (replicate n 0) ≡ replicate n 0
parts_zeros n =
    let many : length (replicate {A = ℕ} n 0) ≡ n = length-replicate {A = ℕ} n 0 in
    sym (fill_by_all (from_parts_at (replicate n 0) (replicate n 0)) (replicate n 0) (length (replicate {A = ℕ} n 0)) 0 refl (λ k l.
    let zero : get_or (replicate {A = ℕ} n 0) k 0 ≡ 0 = get_or-replicate n k 0 0 (omega arith) in
    omega (arith, zero)))

-- a word is written by its parts
pub parts_set : (low high : List ℕ) (i w : ℕ) → i < length low → length high ≡ length low → from_parts (set low i (w % 65536)) (set high i (w / 65536)) ≡ set (from_parts low high) i w
parts_set low high i w l many =
    let whole : List ℕ = from_parts low high in
    let rest : ℕ = w % 65536 in
    let times : ℕ = w / 65536 in
    let count : length (set whole i w) ≡ length (set low i rest) = length-set whole i w ∙ parts_many low high ∙ sym (length-set low i rest) in
    sym (fill_by_all (from_parts_at (set low i rest) (set high i times)) (set whole i w) (length (set low i rest)) 0 count (λ k h.
    let inside : k < length low = omega (arith, length-set low i rest) in
    elim (cases_eq k i) [
      | inl e ↦
          let wanted : get_or (set whole i w) i 0 ≡ w = get_or-set_same whole i w 0 (omega (arith, parts_many low high)) in
          let first : get_or (set low i rest) i 0 ≡ rest = get_or-set_same low i rest 0 l in
          let second : get_or (set high i times) i 0 ≡ times = get_or-set_same high i times 0 (omega arith) in
          rw e (omega (arith, wanted, first, second))
      | inr ne ↦
          let wanted : get_or (set whole i w) k 0 ≡ get_or whole k 0 = get_or-set_other whole i k w 0 ne in
          let first : get_or (set low i rest) k 0 ≡ get_or low k 0 = get_or-set_other low i k rest 0 ne in
          let second : get_or (set high i times) k 0 ≡ get_or high k 0 = get_or-set_other high i k times 0 ne in
          omega (arith, wanted, first, second, parts_get low high k inside)
    ]))

-- a high part is less than 2 ^ 48, also where it was written
pub high_set : (high : List ℕ) (i v : ℕ) → v < 2 ^ 48 → ((k : ℕ) → get_or high k 0 < 2 ^ 48) → (k : ℕ) → get_or (set high i v) k 0 < 2 ^ 48
high_set high i v small below k = elim (cases_eq k i) [
  | inl e ↦ elim (cases_lt i (length high)) [
    | inl l ↦ rw (e, get_or-set_same high i v 0 l) small
    | inr past ↦ rw (set_past high i v past) (below k)
  ]
  | inr ne ↦ rw (get_or-set_other high i k v 0 ne) (below k)
]

-- zeros are less than 2 ^ 48
pub high_zeros : (n k : ℕ) → get_or (replicate {A = ℕ} n 0) k 0 < 2 ^ 48
high_zeros n k = elim (cases_lt k n) [
  | inl l ↦ omega (arith, get_or-replicate {A = ℕ} n k 0 0 l)
  | inr past ↦ omega (arith, get_or_past (replicate {A = ℕ} n 0) k 0 (omega (arith, length-replicate {A = ℕ} n 0)))
]
