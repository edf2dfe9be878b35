-- The limit of a scan, read digit by digit.
use Rattle.std.proofs.Common.{◌≡◌, ℕ, ◌+◌, ◌-◌, ◌*◌, ◌<◌, ◌≤◌, Bool, true, false, cond, ltb, leb, ◌&&◌, List, [], ◌∷◌, length, drop, get_or, Result, Ok, Err, refl, sym, ap, ◌∙◌, arith, ⊎_elim}
use Rattle.std.specs.Char.{digit_value, is_ascii_digit}
use Rattle.std.specs.Str.{all_ascii_digits}
use Rattle.std.specs.Str.Parse.{digits_value_after}
use Rattle.std.proofs.lemmas.Bool.{cond-true, cond-false, cases_Bool, and_parts, leb-true, le-ltb, lt-ltb, le-leb, and_from}
use Rattle.std.proofs.lemmas.List.{drop_more, drop_all}
use Rattle.line_protocol.specs.Parts.{limit_of}
use Rattle.line_protocol.specs.declared.fault.Fault.TheVariants.{Limit}
use Rattle.line_protocol.specs.declared.fault.RequestFault.{RequestFault}
use Rattle.line_protocol.specs.declared.fault.RequestFault.TheVariants.{Fault}
use Rattle.line_protocol.specs.declared.parts.TheConstants.{LIMIT_DIGITS, MOST_SCANNED}

-- the limit of digits behind the number that is read so far
abbrev pub limit_from : ℕ → List ℕ → Result ℕ RequestFault
limit_from n [] = cond (leb n MOST_SCANNED) (Ok n) (Err (Fault Limit))
limit_from n (b ∷ digits) = cond (is_ascii_digit b) (limit_from (n * 10 + (b - 48)) digits) (Err (Fault Limit))

digit_value_of : (b : ℕ) → is_ascii_digit b ≡ true → digit_value b ≡ b - 48
digit_value_of b digit =
    let parts = and_parts (leb 48 b) (leb b 57) digit in
    let low = leb-true 48 b parts.0 in
    let high = leb-true b 57 parts.1 in
    cond-false (ltb b 48) _ _ (le-ltb b 48 low) ∙ cond-true (ltb b 58) _ _ (lt-ltb b 58 (omega arith))

-- the limit, where all are digits and their number is small
abbrev pub limit_where : Bool → ℕ → Result ℕ RequestFault
limit_where digits n = cond (digits && leb n MOST_SCANNED) (Ok n) (Err (Fault Limit))

limit_from_is : (n : ℕ) (word : List ℕ) → limit_from n word ≡ limit_where (all_ascii_digits word) (digits_value_after 10 n word)
limit_from_is n [] = refl
limit_from_is n (b ∷ digits) =
    let rest = all_ascii_digits digits in
    ⊎_elim
    (λ yes.
    cond-true (is_ascii_digit b) (limit_from (n * 10 + (b - 48)) digits) (Err (Fault Limit)) yes
    ∙ limit_from_is (n * 10 + (b - 48)) digits
    ∙ ap (λ v. limit_where rest (digits_value_after 10 (n * 10 + v) digits)) (sym (digit_value_of b yes))
    ∙ ap (λ t. limit_where (t && rest) (digits_value_after 10 (n * 10 + digit_value b) digits)) (sym yes))
    (λ no.
    cond-false (is_ascii_digit b) (limit_from (n * 10 + (b - 48)) digits) (Err (Fault Limit)) no
    ∙ ap (λ t. limit_where (t && rest) (digits_value_after 10 (n * 10 + digit_value b) digits)) (sym no))
    (cases_Bool (is_ascii_digit b))

-- whether the word has 1 to 7 bytes
abbrev pub has_length : List ℕ → Bool
has_length word = ltb 0 (length word) && leb (length word) LIMIT_DIGITS

pub limit_is : (word : List ℕ) → 0 < length word → length word ≤ LIMIT_DIGITS → limit_from 0 word ≡ limit_of word
limit_is word some few =
    let here : has_length word ≡ true = and_from (ltb 0 (length word)) (leb (length word) LIMIT_DIGITS) (lt-ltb 0 (length word) some) (le-leb (length word) LIMIT_DIGITS few) in
    limit_from_is 0 word
    ∙ ap (λ t. cond (t && all_ascii_digits word && leb (digits_value_after 10 0 word) MOST_SCANNED) (Ok (digits_value_after 10 0 word)) (Err (Fault Limit))) (sym here)

pub limit_off : (word : List ℕ) → has_length word ≡ false → limit_of word ≡ Err (Fault Limit)
limit_off word off =
    ap (λ t. cond (t && all_ascii_digits word && leb (digits_value_after 10 0 word) MOST_SCANNED) (Ok (digits_value_after 10 0 word)) (Err (Fault Limit))) off

-- at a byte that is no digit
pub limit_stops : (n i : ℕ) (word : List ℕ) → i < length word → is_ascii_digit (get_or word i 0) ≡ false → limit_from n (drop i word) ≡ Err (Fault Limit)
limit_stops n i word within other =
    let b = get_or word i 0 in
    ap (limit_from n) (drop_more word i 0 within) ∙ cond-false (is_ascii_digit b) (limit_from (n * 10 + (b - 48)) (drop (i + 1) word)) (Err (Fault Limit)) other

-- behind the last digit
pub limit_ends : (n i : ℕ) (word : List ℕ) → length word ≤ i → limit_from n (drop i word) ≡ limit_where true n
limit_ends n i word past = ap (limit_from n) (drop_all i word past)
