-- Counts that go on over a text, byte by byte.
use Rattle.std.proofs.Common.{◌≡◌, ℕ, zero, suc, ◌+◌, ◌-◌, ◌<◌, ◌≤◌, ◌^◌, min, List, [], ◌∷◌, ◌++◌, take, length, true, false, cond, eqb, refl, sym, ap, ◌∙◌, arith, length-take, length-append}
use Rattle.std.specs.List.{count_by}
use Rattle.std.specs.Prelude.{◌&&◌, if◌then◌else◌}
use Rattle.std.specs.Str.{bytes_eq}
use Rattle.std.proofs.lemmas.List.{append-nil, take-append-le}
use Rattle.std.proofs.lemmas.List.Sums.{sum_by-append, count_by-le-length}
use Rattle.line_reader.specs.Cut.{open_part}
use Rattle.line_reader.proofs.Cutting.{open_part-append}
use Rattle.fill_runs.specs.Summary.{lines_behind, first_word, has_word, counted}
use Rattle.fill_runs.specs.Tallies.{count_of}

short_take : (n : ℕ) (xs : List ℕ) → length xs ≤ n → take n xs ≡ xs
short_take zero [] short = refl
short_take zero (x ∷ xs) short = absurd (omega arith)
short_take (suc n) [] short = refl
short_take (suc n) (x ∷ xs) short = ap (λ l. x ∷ l) (short_take n xs (omega arith))

-- the lines of two pieces are those of the first, and those of the second behind what the first left open
pub lines_behind-append : (start xs ys : List ℕ) → lines_behind start (xs ++ ys) ≡ lines_behind start xs ++ lines_behind (open_part start xs) ys
lines_behind-append start [] ys = refl
lines_behind-append start (b ∷ xs) ys =
    elim (eqb b 10) as (λ t. cond t (start ∷ lines_behind [] (xs ++ ys)) (lines_behind (start ++ b ∷ []) (xs ++ ys)) ≡ cond t (start ∷ lines_behind [] xs) (lines_behind (start ++ b ∷ []) xs) ++ lines_behind (cond t (open_part [] xs) (open_part (start ++ b ∷ []) xs)) ys) [
      | true ↦ ap (λ ls. start ∷ ls) (lines_behind-append [] xs ys)
      | false ↦ lines_behind-append (start ++ b ∷ []) xs ys
    ]

-- a text has at most as many lines as bytes
lines_few : (start text : List ℕ) → length (lines_behind start text) ≤ length text
lines_few start [] = omega arith
lines_few start (b ∷ text) =
    elim (eqb b 10) as (λ t. length (cond t (start ∷ lines_behind [] text) (lines_behind (start ++ b ∷ []) text)) ≤ suc (length text)) [
      | true ↦ let few = lines_few [] text in omega arith
      | false ↦ let few = lines_few (start ++ b ∷ []) text in omega arith
    ]

pub counted_few : (word text : List ℕ) → counted word text ≤ length text
counted_few word text = let few = lines_few [] text in let some = count_by-le-length (has_word word) (lines_behind [] text) in omega arith

-- so the count of a text that isn't too long is exact
pub count_exact : (word text : List ℕ) → length text < 2 ^ 64 → count_of word text ≡ counted word text
count_exact word text short = let few = counted_few word text in omega arith

-- the first word of the first bytes is what these have of it
word_front : (n : ℕ) (line : List ℕ) → first_word (take n line) ≡ take n (first_word line)
word_front zero line = refl
word_front (suc n) [] = refl
word_front (suc n) (b ∷ line) =
    elim (eqb b 32) as (λ t. cond t [] (b ∷ first_word (take n line)) ≡ take (suc n) (cond t [] (b ∷ first_word line))) [
      | true ↦ refl
      | false ↦ ap (λ w. b ∷ w) (word_front n line)
    ]

-- no first bytes of a longer word are a short word
short_word : (n : ℕ) (long word : List ℕ) → length word < n → bytes_eq (take n long) word ≡ bytes_eq long word
short_word zero long word short = absurd (omega arith)
short_word (suc n) [] word short = refl
short_word (suc n) (a ∷ long) [] short = refl
short_word (suc n) (a ∷ long) (b ∷ word) short = ap (λ t. eqb a b && t) (short_word n long word (omega arith))

pub same_word : (line word : List ℕ) → length word < 6 → bytes_eq (first_word (take 6 line)) word ≡ has_word word line
same_word line word short = ap (λ w. bytes_eq w word) (word_front 6 line) ∙ short_word 6 (first_word line) word short

-- where a line ends, it is counted
ended_counted : (word text : List ℕ) → counted word (text ++ 10 ∷ []) ≡ counted word text + (if has_word word (open_part [] text) then 1 else 0)
ended_counted word text =
    ap (count_by (has_word word)) (lines_behind-append [] text (10 ∷ [])) ∙ (sum_by-append (λ line. cond (has_word word line) 1 0) (lines_behind [] text) (open_part [] text ∷ []) ∙ omega arith)

pub count_ended : (word line first text : List ℕ) (before after : ℕ) → length word < 6 → before ≡ count_of word text → line ≡ take 6 (open_part [] text) → first ≡ first_word line
    → after ≡ min (before + (if bytes_eq first word then 1 else 0)) (2 ^ 64 - 1) → after ≡ count_of word (text ++ 10 ∷ [])
count_ended word line first text before after short was begun is_first is =
    let same : bytes_eq first word ≡ has_word word (open_part [] text) = ap (λ w. bytes_eq w word) (is_first ∙ ap first_word begun) ∙ same_word (open_part [] text) word short in
    let more : after ≡ min (before + (if has_word word (open_part [] text) then 1 else 0)) (2 ^ 64 - 1) = is ∙ ap (λ t. min (before + (if t then 1 else 0)) (2 ^ 64 - 1)) same in
    let next = ended_counted word text in omega arith

-- where none ends, the counts stay
pub lines_same : (text : List ℕ) (b : ℕ) → eqb b 10 ≡ false → lines_behind [] (text ++ b ∷ []) ≡ lines_behind [] text
lines_same text b other =
    lines_behind-append [] text (b ∷ []) ∙ (ap (λ t. lines_behind [] text ++ cond t (open_part [] text ∷ []) []) other ∙ append-nil (lines_behind [] text))

pub start_more : (text : List ℕ) (b : ℕ) → eqb b 10 ≡ false → open_part [] (text ++ b ∷ []) ≡ open_part [] text ++ b ∷ []
start_more text b other = open_part-append [] text (b ∷ []) ∙ ap (λ t. cond t [] (open_part [] text ++ b ∷ [])) other

-- counts go on at the end of a line, and stay where none ends
pub begun_more : (start text : List ℕ) (b : ℕ) → eqb b 10 ≡ false → start ≡ take 6 (open_part [] text) → length start < 6 → start ++ b ∷ [] ≡ take 6 (open_part [] (text ++ b ∷ []))
begun_more start text b other begun room =
    let all : take 6 (open_part [] text) ≡ open_part [] text = short_take 6 (open_part [] text) (omega (arith, ap length begun, length-take 6 (open_part [] text))) in
    ap (λ w. w ++ b ∷ []) (begun ∙ all) ∙ sym (ap (take 6) (start_more text b other) ∙ short_take 6 (open_part [] text ++ b ∷ []) (omega (arith, ap length all, ap length begun, length-append (open_part [] text) (b ∷ []))))

pub begun_full : (start text : List ℕ) (b : ℕ) → eqb b 10 ≡ false → start ≡ take 6 (open_part [] text) → 6 ≤ length start → start ≡ take 6 (open_part [] (text ++ b ∷ []))
begun_full start text b other begun full =
    begun ∙ sym (ap (take 6) (start_more text b other) ∙ take-append-le 6 (open_part [] text) (b ∷ []) (omega (arith, ap length begun, length-take 6 (open_part [] text))))

-- at the end of a line nothing is kept
pub start_ended : (text : List ℕ) → open_part [] (text ++ 10 ∷ []) ≡ []
start_ended text = open_part-append [] text (10 ∷ [])
