-- A lane's number, read digit by digit.
use Rattle.std.proofs.Common.{◌≡◌, ℕ, ◌+◌, ◌-◌, ◌*◌, ◌<◌, ◌≤◌, Bool, true, false, cond, ltb, leb, ◌&&◌, List, [], ◌∷◌, length, drop, get_or, Option, Some, None, refl, sym, ap, ◌∙◌, arith, ⊎_elim}
use Rattle.std.specs.Char.{digit_value, is_ascii_digit}
use Rattle.std.specs.Str.{all_ascii_digits}
use Rattle.std.specs.Str.Parse.{digits_value_after}
use Rattle.std.proofs.lemmas.Bool.{cond-true, cond-false, cases_Bool, and_parts, leb-true, le-ltb, lt-ltb, le-leb, and_from}
use Rattle.std.proofs.lemmas.List.{drop_more, drop_all}
use Rattle.lane_lines.specs.Deal.{lane_of_word}
use Rattle.lane_lines.specs.declared.lane_word.TheConstants.{LANE_DIGITS}

-- the lane of digits behind the number that is read so far
abbrev pub lane_from : ℕ → ℕ → List ℕ → Option ℕ
lane_from lanes n [] = cond (ltb n lanes) (Some n) None
lane_from lanes n (b ∷ digits) = cond (is_ascii_digit b) (lane_from lanes (n * 10 + (b - 48)) digits) None

digit_value_of : (b : ℕ) → is_ascii_digit b ≡ true → digit_value b ≡ b - 48
digit_value_of b digit =
    let parts = and_parts (leb 48 b) (leb b 57) digit in
    let low = leb-true 48 b parts.0 in
    let high = leb-true b 57 parts.1 in
    cond-false (ltb b 48) _ _ (le-ltb b 48 low) ∙ cond-true (ltb b 58) _ _ (lt-ltb b 58 (omega arith))

-- the lane, where all are digits and their number is below the end
abbrev pub lane_where : ℕ → Bool → ℕ → Option ℕ
lane_where lanes digits n = cond (digits && ltb n lanes) (Some n) None

lane_from_is : (lanes n : ℕ) (word : List ℕ) → lane_from lanes n word ≡ lane_where lanes (all_ascii_digits word) (digits_value_after 10 n word)
lane_from_is lanes n [] = refl
lane_from_is lanes n (b ∷ digits) =
    let rest = all_ascii_digits digits in
    ⊎_elim
    (λ yes.
    cond-true (is_ascii_digit b) (lane_from lanes (n * 10 + (b - 48)) digits) None yes
    ∙ lane_from_is lanes (n * 10 + (b - 48)) digits
    ∙ ap (λ v. lane_where lanes rest (digits_value_after 10 (n * 10 + v) digits)) (sym (digit_value_of b yes))
    ∙ ap (λ t. lane_where lanes (t && rest) (digits_value_after 10 (n * 10 + digit_value b) digits)) (sym yes))
    (λ no.
    cond-false (is_ascii_digit b) (lane_from lanes (n * 10 + (b - 48)) digits) None no
    ∙ ap (λ t. lane_where lanes (t && rest) (digits_value_after 10 (n * 10 + digit_value b) digits)) (sym no))
    (cases_Bool (is_ascii_digit b))

-- whether the word has as many bytes as a lane's number may have
abbrev pub has_length : List ℕ → Bool
has_length word = ltb 0 (length word) && leb (length word) LANE_DIGITS

pub lane_is : (lanes : ℕ) (word : List ℕ) → 0 < length word → length word ≤ LANE_DIGITS → lane_from lanes 0 word ≡ lane_of_word lanes word
lane_is lanes word some few =
    let here : has_length word ≡ true = and_from (ltb 0 (length word)) (leb (length word) LANE_DIGITS) (lt-ltb 0 (length word) some) (le-leb (length word) LANE_DIGITS few) in
    lane_from_is lanes 0 word
    ∙ ap (λ t. cond (t && all_ascii_digits word && ltb (digits_value_after 10 0 word) lanes) (Some (digits_value_after 10 0 word)) None) (sym here)

pub lane_off : (lanes : ℕ) (word : List ℕ) → has_length word ≡ false → lane_of_word lanes word ≡ None
lane_off lanes word off =
    ap (λ t. cond (t && all_ascii_digits word && ltb (digits_value_after 10 0 word) lanes) (Some (digits_value_after 10 0 word)) None) off

-- at a byte that is no digit
pub lane_stops : (lanes n i : ℕ) (word : List ℕ) → i < length word → is_ascii_digit (get_or word i 0) ≡ false → lane_from lanes n (drop i word) ≡ None
lane_stops lanes n i word within other =
    let b = get_or word i 0 in
    ap (lane_from lanes n) (drop_more word i 0 within) ∙ cond-false (is_ascii_digit b) (lane_from lanes (n * 10 + (b - 48)) (drop (i + 1) word)) None other

-- behind the last digit
pub lane_ends : (lanes n i : ℕ) (word : List ℕ) → length word ≤ i → lane_from lanes n (drop i word) ≡ lane_where lanes true n
lane_ends lanes n i word past = ap (lane_from lanes n) (drop_all i word past)
