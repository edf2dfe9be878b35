-- Bytes that are compared with words eight at a time.
use Rattle.std.proofs.Common.{◌≡◌, ◌≢◌, ℕ, ◌+◌, ◌-◌, ◌*◌, ◌/◌, ◌%◌, ◌^◌, ◌<◌, ◌≤◌, List, length, get_or, drop, inl, inr, sym, ap, ◌∙◌, arith}
use Rattle.std.proofs.lemmas.Bool.{cases_lt}
use Rattle.std.proofs.lemmas.List.{get_or-drop, length-drop}
use Rattle.row_words.specs.Bytes.{byte_at, bytes_from}
use Rattle.row_words.proofs.Packed.{bytes_is, bytes_get}
use Rattle.row_words.proofs.Digits.{digits_same}

-- byte j of word i is byte 8 * i + j
word_byte : (ws : List ℕ) (from i j : ℕ) → j < 8 → byte_at ws from (8 * i + j) ≡ get_or ws (from + i) 0 / 2 ^ (8 * j) % 256
word_byte ws from i j l =
    let at : (8 * i + j) / 8 ≡ i = omega arith in
    let shift : (8 * i + j) % 8 ≡ j = omega arith in
    ap (λ (k : ℕ). get_or ws (from + k) 0 / 2 ^ (8 * ((8 * i + j) % 8)) % 256) at
    ∙ ap (λ (k : ℕ). get_or ws (from + i) 0 / 2 ^ (8 * k) % 256) shift

-- every place from 8 * i on is that of a byte of the rest
at_rest : (f g : ℕ → ℕ) (start j : ℕ) → start ≤ j → f (start + (j - start)) ≡ g (start + (j - start)) → f j ≡ g j
at_rest f g start j le e = let k : start + (j - start) ≡ j = omega arith in ap f (sym k) ∙ e ∙ ap g k

-- the bytes up to a word and those of the word
pub word_more : (ws bs : List ℕ) (from i w v : ℕ) → w ≡ get_or ws (from + i) 0 → w ≡ v → ((j : ℕ) → j < 8 → v / 2 ^ (8 * j) % 256 ≡ get_or bs (8 * i + j) 0) → ((j : ℕ) → j < 8 * i → byte_at ws from j ≡ get_or bs j 0) → (j : ℕ) → j < 8 * (i + 1) → byte_at ws from j ≡ get_or bs j 0
word_more ws bs from i w v e same here below j l = elim (cases_lt j (8 * i)) [
  | inl less ↦ below j less
  | inr more ↦ at_rest (byte_at ws from) (λ k. get_or bs k 0) (8 * i) j more (word_byte ws from i (j - 8 * i) (omega arith) ∙ ap (λ (x : ℕ). x / 2 ^ (8 * (j - 8 * i)) % 256) (sym e ∙ same) ∙ here (j - 8 * i) (omega arith))
]

-- a word that differs has a byte that does
pub word_other : (ws bs : List ℕ) (from i n w v : ℕ) → w ≡ get_or ws (from + i) 0 → w ≢ v → w < 2 ^ 64 → v < 2 ^ 64 → ((j : ℕ) → j < 8 → v / 2 ^ (8 * j) % 256 ≡ get_or bs (8 * i + j) 0) → 8 * i + 8 ≤ n → bytes_from ws from n ≡ bs → ⊥
word_other ws bs from i n w v e other lw lv here le all = other (digits_same w v lw lv (λ j l.
    ap (λ (x : ℕ). x / 2 ^ (8 * j) % 256) e ∙ sym (word_byte ws from i j l) ∙ bytes_get ws from n bs (8 * i + j) all (omega arith) ∙ sym (here j l)))

-- the bytes up to the last word and those of the last word
pub last_same : (ws bs rest : List ℕ) (from i w : ℕ) → w ≡ get_or ws (from + i) 0 → length bs < 8 * i + 8 → rest ≡ drop (8 * i) bs → ((j : ℕ) → j < 8 * i → byte_at ws from j ≡ get_or bs j 0) → ((j : ℕ) → j < length rest → w / 2 ^ (8 * j) % 256 ≡ get_or rest j 0) → bytes_from ws from (length bs) ≡ bs
last_same ws bs rest from i w e short r below here =
    let n : length rest ≡ length bs - 8 * i = ap length r ∙ length-drop (8 * i) bs in
    bytes_is ws from bs (λ j l. elim (cases_lt j (8 * i)) [
      | inl less ↦ below j less
      | inr more ↦ at_rest (byte_at ws from) (λ k. get_or bs k 0) (8 * i) j more (word_byte ws from i (j - 8 * i) (omega (arith, l, short)) ∙ ap (λ (x : ℕ). x / 2 ^ (8 * (j - 8 * i)) % 256) (sym e) ∙ here (j - 8 * i) (omega (arith, n, l, more)) ∙ ap (λ (xs : List ℕ). get_or xs (j - 8 * i) 0) r ∙ get_or-drop (8 * i) bs (j - 8 * i) 0)
    ])

-- the last word begins with the rest of the bytes
pub last_begins : (ws bs rest : List ℕ) (from i w : ℕ) → w ≡ get_or ws (from + i) 0 → length bs < 8 * i + 8 → rest ≡ drop (8 * i) bs → bytes_from ws from (length bs) ≡ bs → (j : ℕ) → j < length rest → w / 2 ^ (8 * j) % 256 ≡ get_or rest j 0
last_begins ws bs rest from i w e short r all j l =
    let n : length rest ≡ length bs - 8 * i = ap length r ∙ length-drop (8 * i) bs in
    ap (λ (x : ℕ). x / 2 ^ (8 * j) % 256) e
    ∙ (sym (word_byte ws from i j (omega (arith, n, l, short)))
    ∙ (bytes_get ws from (length bs) bs (8 * i + j) all (omega (arith, n, l))
    ∙ (sym (get_or-drop (8 * i) bs j 0)
    ∙ ap (λ (xs : List ℕ). get_or xs j 0) (sym r))))
