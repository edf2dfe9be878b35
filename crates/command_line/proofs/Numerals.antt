-- A number, as `parse` reads it.
use Rattle.std.proofs.Common.{◌≡◌, ◌≢◌, ℕ, ◌<◌, ◌≤◌, ◌^◌, true, List, length, get_or, Some, None, Result, Ok, Err, sym, ap, ◌∙◌}
use Rattle.std.specs.Result.{OkIff, result_ok}
use Rattle.std.specs.Str.{all_ascii_digits}
use Rattle.std.specs.Str.Parse.{digits_value, ParsesUnsigned}
use Rattle.std.proofs.lemmas.Bool.{cond-true, cond-false, and_from, and_parts, lt-ltb, le-leb, ltb-true, false_from_ne_true}
use Rattle.std.proofs.lemmas.Str.Parse.{IsNumeralModel, numerals_by_value, tells_all_ascii_digits, parse_plain}
use Rattle.command_line.specs.Number.{is_number, number}

own : IsNumeralModel (λ ds. all_ascii_digits ds ≡ true) (digits_value 10)
own = numerals_by_value _ tells_all_ascii_digits

-- at least one digit, and a small value
abbrev IsSmall : List ℕ → Type 0
IsSmall bs = (all_ascii_digits bs ≡ true) × (0 < length bs) × (digits_value 10 bs < 2 ^ 64)

is_number_from : (bs : List ℕ) → length bs ≤ 20 → IsSmall bs → is_number bs ≡ true
is_number_from bs few small =
    and_from _ _
    (and_from _ _ (and_from _ _ (lt-ltb 0 (length bs) small.1) (le-leb (length bs) 20 few)) small.0)
    (lt-ltb (digits_value 10 bs) (2 ^ 64) small.2)

small_from : (bs : List ℕ) → is_number bs ≡ true → IsSmall bs
small_from bs is =
    let last = and_parts _ _ is in
    let digits = and_parts _ _ last.0 in
    let lengths = and_parts _ _ digits.0 in
    (digits.1, ltb-true 0 (length bs) lengths.0, ltb-true (digits_value 10 bs) (2 ^ 64) last.1)

read : {E : Type 0} (bs : List ℕ) (r : Result ℕ E) → length bs ≤ 20 → OkIff r (IsSmall bs) (digits_value 10 bs) → result_ok r ≡ number bs
read bs (Ok x) few h =
    ap Some h.1 ∙ sym (cond-true (is_number bs) (Some (digits_value 10 bs)) None (is_number_from bs few h.0))
read bs (Err e) few h =
    sym (cond-false (is_number bs) (Some (digits_value 10 bs)) None (false_from_ne_true _ (λ is. h (small_from bs is))))

pub parsed : {E : Type 0} (bs : List ℕ) (r : Result ℕ E) → ParsesUnsigned 64 10 bs r → length bs ≤ 20 → get_or bs 0 0 ≢ 43 → result_ok r ≡ number bs
parsed bs r h few plain = read bs r few (parse_plain own 64 bs r h plain)
