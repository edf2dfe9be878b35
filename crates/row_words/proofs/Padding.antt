-- Words with zeros behind them.
use Rattle.std.proofs.Common.{◌≡◌, ℕ, suc, ◌+◌, ◌-◌, ◌<◌, ◌≤◌, List, [], ◌∷◌, ◌++◌, length, get_or, replicate, inl, inr, refl, sym, ◌∙◌, ap, arith, length-append, append_assoc}
use Rattle.std.proofs.Math.ListN.{set}
use Rattle.std.proofs.lemmas.Bool.{cases_lt}
use Rattle.std.proofs.lemmas.List.{get_or-append_right, get_or-replicate, get_or_past, length-replicate, length_push, set-get_or, set_at, replicate_more, replicate-append-replicate}
use Rattle.row_words.specs.Padded.{padded}

abbrev zeros : ℕ → List ℕ
zeros n = replicate n 0

length-zeros : (n : ℕ) → length (zeros n) ≡ n
length-zeros n = length-replicate {A = ℕ} n 0

-- zeros in four parts
pub zeros_parts : (n m l k : ℕ) → zeros n ++ zeros m ++ zeros l ++ zeros k ≡ zeros (n + m + l + k)
zeros_parts n m l k =
    ap (λ (zs : List ℕ). zs ++ zeros l ++ zeros k) (replicate-append-replicate {A = ℕ} n m 0)
    ∙ ap (λ (zs : List ℕ). zs ++ zeros k) (replicate-append-replicate {A = ℕ} (n + m) l 0)
    ∙ replicate-append-replicate {A = ℕ} (n + m + l) k 0

-- one more zero, where n words stand before the zeros
pub zeros_more : (ws : List ℕ) (n i : ℕ) → n ≤ i → (ws ++ zeros (i - n)) ++ 0 ∷ [] ≡ ws ++ zeros (i + 1 - n)
zeros_more ws n i le =
    let more : i - n + 1 ≡ i + 1 - n = omega arith in
    append_assoc ws (zeros (i - n)) (0 ∷ []) ∙ ap (λ (zs : List ℕ). ws ++ zs) (replicate_more {X = ℕ} (i - n) 0 ∙ ap zeros more)

-- every word of zeros is 0, also past their end
zeros_get : (n i d : ℕ) → d ≡ 0 → get_or (zeros n) i d ≡ 0
zeros_get n i d e = elim (cases_lt i n) [
  | inl less ↦ get_or-replicate n i 0 d less
  | inr more ↦ get_or_past (zeros n) i d (omega (arith, more, length-zeros n)) ∙ e
]

-- zeros up to a place, the one there, and those behind it
zeros_split : (n m : ℕ) → m < n → zeros n ≡ zeros m ++ 0 ∷ zeros (n - (m + 1))
zeros_split n m l =
    let whole : n ≡ m + suc (n - (m + 1)) = omega arith in
    ap zeros whole ∙ sym (replicate-append-replicate {A = ℕ} m (suc (n - (m + 1))) 0)

pub length-padded : (ws : List ℕ) (count : ℕ) → length ws ≤ count → length (padded ws count) ≡ count
length-padded ws count le = omega (arith, le, length-append ws (zeros (count - length ws)), length-zeros (count - length ws))

-- a write of 0 behind the kept words
pub set_zero : (ws : List ℕ) (count i : ℕ) → length ws ≤ i → set (padded ws count) i 0 ≡ padded ws count
set_zero ws count i le =
    let behind : get_or (padded ws count) i 0 ≡ 0 = get_or-append_right ws (zeros (count - length ws)) (length ws) i 0 refl le ∙ zeros_get (count - length ws) (i - length ws) 0 refl in
    ap (λ (v : ℕ). set (padded ws count) i v) (sym behind) ∙ set-get_or (padded ws count) i 0

-- a write behind the kept words, with the zeros between
pub set_behind : (ws : List ℕ) (count i w : ℕ) → length ws ≤ i → i < count → set (padded ws count) i w ≡ padded ((ws ++ zeros (i - length ws)) ++ w ∷ []) count
set_behind ws count i w le l =
    let between : List ℕ = zeros (i - length ws) in
    let rest : List ℕ = zeros (count - length ws - (i - length ws + 1)) in
    let here : length (ws ++ between) ≡ i = omega (arith, le, length-append ws between, length-zeros (i - length ws)) in
    let left : count - length ws - (i - length ws + 1) ≡ count - length ((ws ++ between) ++ w ∷ []) = omega (arith, le, l, here, length_push (ws ++ between) w) in
    ap (λ (zs : List ℕ). set (ws ++ zs) i w) (zeros_split (count - length ws) (i - length ws) (omega (arith, le, l)))
    ∙ ap (λ (zs : List ℕ). set zs i w) (sym (append_assoc ws between (0 ∷ rest)))
    ∙ set_at (ws ++ between) 0 rest w i here
    ∙ sym (append_assoc (ws ++ between) (w ∷ []) rest)
    ∙ ap (λ (n : ℕ). ((ws ++ between) ++ w ∷ []) ++ zeros n) left
