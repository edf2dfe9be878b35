-- Bytes in words, one by one.
use Rattle.std.proofs.Common.{◌≡◌, ◌≢◌, ℕ, zero, suc, ◌+◌, ◌-◌, ◌*◌, ◌/◌, ◌%◌, ◌^◌, ◌<◌, ◌≤◌, inl, inr, List, ◌++◌, w64, length, get_or, take, drop, length-append, sym, ap, ◌∙◌, refl, arith, zero-add, below_more, get_or-set_other, get_or-set_same}
use Rattle.std.proofs.Math.ListN.{set}
use Rattle.std.proofs.lemmas.List.FromFn.{fill_by_all, get_or-map-range_with_len, take-map-range_with_len, length-map-range_with_len}
use Rattle.std.proofs.Math.Nat.{div-one}
use Rattle.std.proofs.lemmas.Bool.{cases_lt}
use Rattle.std.proofs.lemmas.List.{length-take, length-take-le, get_or-take, get_or_append_left, get_or-append_right, take-append-drop}
use Rattle.std.proofs.Math.Seq.{length_front}
use Rattle.std.specs.Int.{to_le_bytes}
use Rattle.row_words.specs.Bytes.{byte_at, bytes_from}

pub bytes_is : (words : List ℕ) (from : ℕ) (bs : List ℕ) → ((j : ℕ) → j < length bs → byte_at words from j ≡ get_or bs j 0) → bytes_from words from (length bs) ≡ bs
bytes_is words from bs h = sym (fill_by_all (byte_at words from) bs (length bs) 0 refl (λ k l. sym (h k l)))

pub bytes_get : (words : List ℕ) (from n : ℕ) (bs : List ℕ) (j : ℕ) → bytes_from words from n ≡ bs → j < n → byte_at words from j ≡ get_or bs j 0
bytes_get words from n bs j e l = sym (get_or-map-range_with_len (byte_at words from) 0 n j j 0 l (omega arith)) ∙ ap (λ (xs : List ℕ). get_or xs j 0) e

pub bytes_take : (words : List ℕ) (from n m : ℕ) → n ≤ m → take n (bytes_from words from m) ≡ bytes_from words from n
bytes_take words from n m l = take-map-range_with_len (byte_at words from) 0 m n l

pub length-bytes : (words : List ℕ) (from n : ℕ) → length (bytes_from words from n) ≡ n
length-bytes words from n = length-map-range_with_len (byte_at words from) 0 n

pub too_short : (words : List ℕ) (from n : ℕ) (bs : List ℕ) → n < length bs → take (length bs) (bytes_from words from n) ≡ bs → ⊥
too_short words from n bs l e = let a = length-take (length bs) (bytes_from words from n) in let b = ap length e in omega (arith, a, b, length-bytes words from n)

pub bytes_same : (ws vs : List ℕ) (from at n : ℕ) → ((j : ℕ) → j < n → byte_at ws from j ≡ byte_at vs at j) → bytes_from ws from n ≡ bytes_from vs at n
bytes_same ws vs from at n h = fill_by_all (byte_at vs at) (bytes_from ws from n) n 0 (length-bytes ws from n) (λ k l. get_or-map-range_with_len (byte_at ws from) 0 n k k 0 l (omega arith) ∙ h k l)

pub row_bytes : (packed ws : List ℕ) (base n : ℕ) → ((j : ℕ) → j < (n + 7) / 8 → get_or packed j 0 ≡ get_or ws (base + j) 0) → bytes_from packed 0 n ≡ bytes_from ws base n
row_bytes packed ws base n h = bytes_same packed ws 0 base n (λ j l.
    let z : get_or packed (0 + j / 8) 0 ≡ get_or ws (base + j / 8) 0 = ap (λ (i : ℕ). get_or packed i 0) (zero-add (j / 8)) ∙ h (j / 8) (omega arith) in
    ap (λ (w : ℕ). w / 2 ^ (8 * (j % 8)) % 256) z)

pub filled_more : (xs ys : List ℕ) (base i v : ℕ) → i < length xs → ((j : ℕ) → j < i → get_or xs j 0 ≡ get_or ys (base + j) 0) → v ≡ get_or ys (base + i) 0 → (j : ℕ) → j < i + 1 → get_or (set xs i v) j 0 ≡ get_or ys (base + j) 0
filled_more xs ys base i v l below here = below_more (λ (j : ℕ). get_or (set xs i v) j 0 ≡ get_or ys (base + j) 0) i (λ j h. let ne : j ≢ i = omega arith in get_or-set_other xs i j v 0 ne ∙ below j h) (get_or-set_same xs i v 0 l ∙ here)

-- bytes that were packed eight to a word are there again
pub bytes_packed : (words bs : List ℕ) → ((i : ℕ) → i < (length bs + 7) / 8 → (j : ℕ) → j < 8 → get_or words i 0 / 2 ^ (8 * j) % 256 ≡ get_or bs (8 * i + j) 0) → bytes_from words 0 (length bs) ≡ bs
bytes_packed words bs h = bytes_is words 0 bs (λ j l.
    ap (λ (i : ℕ). get_or words i 0 / 2 ^ (8 * (j % 8)) % 256) (zero-add (j / 8))
    ∙ h (j / 8) (omega arith) (j % 8) (omega arith)
    ∙ ap (λ (i : ℕ). get_or bs i 0) (omega arith))

-- the bytes of a word, one by one
word_bytes : (w j : ℕ) → j < 8 → get_or (to_le_bytes w64 w) j 0 ≡ w / 2 ^ (8 * j) % 256
word_bytes w zero l = ap (λ (n : ℕ). n % 256) (sym (div-one w))
word_bytes w (suc zero) l = refl
word_bytes w (suc (suc zero)) l = refl
word_bytes w (suc (suc (suc zero))) l = refl
word_bytes w (suc (suc (suc (suc zero)))) l = refl
word_bytes w (suc (suc (suc (suc (suc zero))))) l = refl
word_bytes w (suc (suc (suc (suc (suc (suc zero)))))) l = refl
word_bytes w (suc (suc (suc (suc (suc (suc (suc zero))))))) l = refl
word_bytes w (suc (suc (suc (suc (suc (suc (suc (suc j)))))))) l = absurd (omega (arith, l))

-- one more word's bytes over those that lie behind the bytes of the first i words
pub word_unpacked : (ws bs rest : List ℕ) (i : ℕ) → 8 * i ≤ length bs → ((j : ℕ) → j < 8 * i → get_or bs j 0 ≡ byte_at ws 0 j) → (j : ℕ) → j < 8 * (i + 1) → get_or (take (8 * i) bs ++ (to_le_bytes w64 (get_or ws i 0) ++ rest)) j 0 ≡ byte_at ws 0 j
word_unpacked ws bs rest i le same j l =
    let front : length (take (8 * i) bs) ≡ 8 * i = length-take-le (8 * i) bs le in
    elim (cases_lt j (8 * i)) [
      | inl less ↦ get_or_append_left (take (8 * i) bs) (to_le_bytes w64 (get_or ws i 0) ++ rest) 0 j (omega (arith, front, less)) ∙ (get_or-take (8 * i) bs j 0 less ∙ same j less)
      | inr more ↦ (let at : j / 8 ≡ i = omega (arith, more, l) in
          let place : j - 8 * i ≡ j % 8 = omega (arith, more, l) in
          get_or-append_right (take (8 * i) bs) (to_le_bytes w64 (get_or ws i 0) ++ rest) (8 * i) j 0 front more
          ∙ (get_or_append_left (to_le_bytes w64 (get_or ws i 0)) rest 0 (j - 8 * i) (omega (arith, more, l))
          ∙ (word_bytes (get_or ws i 0) (j - 8 * i) (omega (arith, more, l))
          ∙ (ap (λ (k : ℕ). get_or ws i 0 / 2 ^ (8 * k) % 256) place ∙ ap (λ (k : ℕ). get_or ws k 0 / 2 ^ (8 * (j % 8)) % 256) (sym (zero-add (j / 8) ∙ at))))))
    ]

-- a part that is replaced by one as long leaves the length as it was
pub length_replaced : (xs ys : List ℕ) (a k : ℕ) → length ys ≡ length (take k (drop a xs)) → length (take a xs ++ (ys ++ drop k (drop a xs))) ≡ length xs
length_replaced xs ys a k e = omega (arith, length-append (take a xs) (ys ++ drop k (drop a xs)), length_front (drop a xs) ys k e, length-append (take a xs) (drop a xs), ap length (take-append-drop a xs))

-- the bytes of all words are there
pub all_unpacked : (ws bs : List ℕ) (n : ℕ) → n ≤ length bs → ((j : ℕ) → j < n → get_or bs j 0 ≡ byte_at ws 0 j) → take n bs ≡ bytes_from ws 0 n
all_unpacked ws bs n le same = fill_by_all (byte_at ws 0) (take n bs) n 0 (length-take-le n bs le) (λ k l. get_or-take n bs k 0 l ∙ same k l)
