-- Reading the text of a request gives the request back.
use Rattle.std.proofs.Common.{◌+◌, ◌≡◌, ℕ, ◌*◌, ◌<◌, ◌≤◌, ◌^◌, true, false, cond, eqb, ltb, leb, not, ◌&&◌, List, [], ◌∷◌, ◌++◌, length, All, codes, decimal, None, Some, Ok, Err, refl, sym, ap, ◌∙◌, subst, arith, length-append}
use Rattle.std.specs.List.{join_with_byte, list_all}
use Rattle.std.specs.Str.{bytes_eq, all_ascii_digits}
use Rattle.std.specs.Str.Parse.{digits_value}
use Rattle.std.proofs.lemmas.Bool.{cond-true, cond-false, cond_both, ne_eqb, le-ltb, lt-ltb, le-leb, and_from, and_parts, not-true, false_from_ne_true}
use Rattle.std.proofs.lemmas.Fmt.{decimal_is_IsNumeral, length-decimal-le}
use Rattle.std.proofs.lemmas.Str.Parse.{digit_at, IsNumeralModel, numerals_by_value, tells_all_ascii_digits}
use Rattle.std.proofs.lemmas.Slice.Eq.{bytes_eq-Decides}
use Rattle.std.proofs.lemmas.List.Splits.{slice_split_none, slice_split_at}
use Rattle.std.proofs.lemmas.List.Elements.{All-nil, All-cons, All-head, All-tail, All-weaker, All-from_get_or, All-from_recursion}
use Rattle.percent_encoding.proofs.PercentLemmas.{IsByte}
use Rattle.key_bytes.specs.Lengths.{IsKey, AreBytes}
use Rattle.key_bytes.specs.declared.bound.Bound.{Bound}
use Rattle.key_bytes.specs.declared.bound.Bound.TheVariants.{Low, At, High}
use Rattle.key_bytes.specs.declared.limits.TheConstants.{LONGEST_KEY, LONGEST_VALUE}
use Rattle.line_reader.specs.declared.limits.TheConstants.{LONGEST_LINE}
use Rattle.line_protocol.specs.Escape.{is_plain, escape_byte, escape, unescape, IsWordByte}
use Rattle.line_protocol.specs.Words.{is_space, words_of}
use Rattle.line_protocol.specs.Parts.{is_key, key_of, value_of, end_of, limit_of}
use Rattle.line_protocol.specs.Requests.{and_then, asked, request, IsValue, IsEnd, IsRequest}
use Rattle.line_protocol.specs.RequestText.{end_word, request_text}
use Rattle.line_protocol.specs.declared.fault.Fault.TheVariants.{Key, Limit, Line}
use Rattle.line_protocol.specs.declared.fault.RequestFault.TheVariants.{Fault}
use Rattle.line_protocol.specs.declared.parts.TheConstants.{LIMIT_DIGITS, MOST_SCANNED}
use Rattle.line_protocol.specs.declared.request.Request.{Request}
use Rattle.line_protocol.specs.declared.request.Request.TheVariants.{Put, Get, Del, Scan, Quit}
use Rattle.line_protocol.proofs.Escapes.{read_again, word_bytes}

-- words without a space, joined by one between each two, are the words again

abbrev HasNoSpace : List ℕ → Type 0
HasNoSpace word = All (λ b. is_space b ≡ false) word

pub words_of-join : (word : List ℕ) (words : List (List ℕ)) → HasNoSpace word → All HasNoSpace words → words_of (join_with_byte 32 (word ∷ words)) ≡ word ∷ words
words_of-join word [] clean others = slice_split_none is_space word clean
words_of-join word (next ∷ words) clean others =
    slice_split_at is_space word 32 (join_with_byte 32 (next ∷ words)) clean refl
    ∙ ap (λ ws. word ∷ ws) (words_of-join next words (All-head HasNoSpace next words others) (All-tail HasNoSpace next words others))

clean_bytes : (word : List ℕ) → All IsWordByte word → HasNoSpace word
clean_bytes word bytes = All-weaker IsWordByte (λ b. is_space b ≡ false) (λ b h. ne_eqb b 32 (λ e. absurd (omega (arith, h.0, e)))) word bytes

clean_escape : (bytes : List ℕ) → AreBytes bytes → HasNoSpace (escape bytes)
clean_escape bytes small = clean_bytes (escape bytes) (word_bytes bytes (All-from_recursion IsByte bytes small))

-- the text of a byte has at most 3 bytes

length-escape_byte : (b : ℕ) → length (escape_byte b) ≤ 3
length-escape_byte b = cond_both (is_plain b) (b ∷ []) _ (λ w. length w ≤ 3) (λ _. omega arith) (λ _. omega arith)

length-escape : (bytes : List ℕ) → length (escape bytes) ≤ 3 * length bytes
length-escape [] = omega arith
length-escape (b ∷ bytes) = omega (arith, length-append (escape_byte b) (escape bytes), length-escape_byte b, length-escape bytes)

-- each part is read again

key_again : (key : List ℕ) → IsKey key → is_key (unescape (escape key)) ≡ true
key_again key k =
    ap is_key (read_again key (All-from_recursion IsByte key k.2))
    ∙ and_from (ltb 0 (length key)) (ltb (length key) (LONGEST_KEY + 1)) (lt-ltb 0 (length key) k.0) (lt-ltb (length key) (LONGEST_KEY + 1) k.1)

key_of-escape : (key : List ℕ) → IsKey key → key_of (escape key) ≡ Ok key
key_of-escape key k =
    cond-true (is_key (unescape (escape key))) (Ok (unescape (escape key))) (Err (Fault Key)) (key_again key k)
    ∙ ap (λ bytes. Ok bytes) (read_again key (All-from_recursion IsByte key k.2))

value_of-escape : (value : List ℕ) → IsValue value → value_of (escape value) ≡ Ok value
value_of-escape value v =
    let same = read_again value (All-from_recursion IsByte value v.1) in
    cond-true (leb (length (unescape (escape value))) LONGEST_VALUE) (Ok (unescape (escape value))) _ (le-leb (length (unescape (escape value))) LONGEST_VALUE (omega (arith, ap length same, v.0)))
    ∙ ap (λ bytes. Ok bytes) same

low_is_not_high : Low ≡ High → ⊥
low_is_not_high e = cc

-- an escaped word isn't `*`
not_bare : (word : List ℕ) → All IsWordByte word → bytes_eq word (codes "*") ≡ false
not_bare word bytes =
    false_from_ne_true (bytes_eq word (codes "*")) (λ e.
    let same : word ≡ 42 ∷ [] = (bytes_eq-Decides word (codes "*")).0 e in
    (All-head IsWordByte 42 [] (subst (All IsWordByte) same bytes)).2 refl)

at_again : (bare : Bound) (key : List ℕ) → IsKey key → end_of bare (escape key) ≡ Ok (At key)
at_again bare key k =
    cond-false (bytes_eq (escape key) (codes "*")) (Ok bare) _ (not_bare (escape key) (word_bytes key (All-from_recursion IsByte key k.2)))
    ∙ cond-true (is_key (unescape (escape key))) (Ok (At (unescape (escape key)))) (Err (Fault Key)) (key_again key k)
    ∙ ap (λ bytes. Ok (At bytes)) (read_again key (All-from_recursion IsByte key k.2))

lower_again : (from : Bound) → IsEnd Low from → end_of Low (end_word from) ≡ Ok from
lower_again Low lower = refl
lower_again (At key) lower = at_again Low key lower
lower_again High lower = absurd (low_is_not_high lower)

upper_again : (upto : Bound) → IsEnd High upto → end_of High (end_word upto) ≡ Ok upto
upper_again Low upper = absurd (low_is_not_high (sym upper))
upper_again (At key) upper = at_again High key upper
upper_again High upper = refl

numerals : IsNumeralModel (λ ds. all_ascii_digits ds ≡ true) (digits_value 10)
numerals = numerals_by_value (λ ds. all_ascii_digits ds ≡ true) tells_all_ascii_digits

limit_of-decimal : (n : ℕ) → n ≤ MOST_SCANNED → limit_of (decimal n) ≡ Ok n
limit_of-decimal n small =
    let fits : n < 2 ^ 64 = omega arith in
    let word = decimal n in
    let numeral = decimal_is_IsNumeral n fits in
    let some = lt-ltb 0 (length word) numeral.0.0 in
    let few = le-leb (length word) LIMIT_DIGITS (length-decimal-le 7 n (omega arith) (omega arith) fits) in
    let digits = numerals.from word numeral.0.1 in
    let low = le-leb (digits_value 10 word) MOST_SCANNED (omega (arith, numeral.1)) in
    cond-true (ltb 0 (length word) && leb (length word) LIMIT_DIGITS && all_ascii_digits word && leb (digits_value 10 word) MOST_SCANNED) (Ok (digits_value 10 word)) (Err (Fault Limit))
    (and_from _ _ (and_from _ _ (and_from _ _ some few) digits) low)
    ∙ ap (λ m. Ok m) numeral.1

clean_decimal : (n : ℕ) → n ≤ MOST_SCANNED → HasNoSpace (decimal n)
clean_decimal n small =
    let fits : n < 2 ^ 64 = omega arith in
    let digits = (decimal_is_IsNumeral n fits).0.1 in
    All-from_get_or (λ b. is_space b ≡ false) (decimal n) 0 (λ i within. ne_eqb _ 32 (λ e. absurd (omega (arith, (digit_at (decimal n) i digits within).0, e))))

clean_end : (bare end : Bound) → IsEnd bare end → HasNoSpace (end_word end)
clean_end bare Low is = All-cons (λ b. is_space b ≡ false) 42 [] refl (All-nil (λ b. is_space b ≡ false))
clean_end bare (At key) is = clean_escape key is.2
clean_end bare High is = All-cons (λ b. is_space b ≡ false) 42 [] refl (All-nil (λ b. is_space b ≡ false))

length-end : (bare end : Bound) → IsEnd bare end → length (end_word end) ≤ 765
length-end bare Low is = omega arith
length-end bare (At key) is = omega (arith, length-escape key, is.1)
length-end bare High is = omega arith

-- a line that has bytes, and is not too long, is asked by its words
by_words : (line : List ℕ) → 0 < length line → length line ≤ LONGEST_LINE → request line ≡ asked (words_of line)
by_words line some short =
    cond-false (eqb (length line) 0) (Ok None) (cond (ltb LONGEST_LINE (length line)) (Err (Fault Line)) (asked (words_of line))) (ne_eqb (length line) 0 (λ e. absurd (omega (arith, e, some))))
    ∙ cond-false (ltb LONGEST_LINE (length line)) (Err (Fault Line)) (asked (words_of line)) (le-ltb LONGEST_LINE (length line) short)

-- a word whose bytes are tested has no space
clean_literal : (word : List ℕ) → list_all (λ b. not (is_space b)) word ≡ true → HasNoSpace word
clean_literal [] clean = All-nil (λ b. is_space b ≡ false)
clean_literal (b ∷ word) clean =
    let parts = and_parts (not (is_space b)) (list_all (λ c. not (is_space c)) word) clean in
    All-cons (λ c. is_space c ≡ false) b word (not-true (is_space b) parts.0) (clean_literal word parts.1)

one_clean : (a : List ℕ) → HasNoSpace a → All HasNoSpace (a ∷ [])
one_clean a clean = All-cons HasNoSpace a [] clean (All-nil HasNoSpace)

two_clean : (a b : List ℕ) → HasNoSpace a → HasNoSpace b → All HasNoSpace (a ∷ b ∷ [])
two_clean a b first second = All-cons HasNoSpace a (b ∷ []) first (one_clean b second)

put_again : (key value : List ℕ) → IsKey key → IsValue value → request (request_text (Put key value)) ≡ Ok (Some (Put key value))
put_again key value k v =
    let first = escape key in
    let second = escape value in
    let long = length-append (codes "PUT") (32 ∷ (first ++ 32 ∷ second)) in
    let longer = length-append first (32 ∷ second) in
    by_words (request_text (Put key value)) (omega (arith, long)) (omega (arith, long, longer, length-escape key, length-escape value, k.1, v.0))
    ∙ ap asked (words_of-join (codes "PUT") (first ∷ second ∷ []) (clean_literal (codes "PUT") refl) (two_clean first second (clean_escape key k.2) (clean_escape value v.1)))
    ∙ ap (λ r. and_then r (λ a. and_then (value_of second) (λ b. Ok (Some (Put a b))))) (key_of-escape key k)
    ∙ ap (λ r. and_then r (λ b. Ok (Some (Put key b)))) (value_of-escape value v)

get_again : (key : List ℕ) → IsKey key → request (request_text (Get key)) ≡ Ok (Some (Get key))
get_again key k =
    let word = escape key in
    let long = length-append (codes "GET") (32 ∷ word) in
    by_words (request_text (Get key)) (omega (arith, long)) (omega (arith, long, length-escape key, k.1))
    ∙ ap asked (words_of-join (codes "GET") (word ∷ []) (clean_literal (codes "GET") refl) (one_clean word (clean_escape key k.2)))
    ∙ ap (λ r. and_then r (λ a. Ok (Some (Get a)))) (key_of-escape key k)

del_again : (key : List ℕ) → IsKey key → request (request_text (Del key)) ≡ Ok (Some (Del key))
del_again key k =
    let word = escape key in
    let long = length-append (codes "DEL") (32 ∷ word) in
    by_words (request_text (Del key)) (omega (arith, long)) (omega (arith, long, length-escape key, k.1))
    ∙ ap asked (words_of-join (codes "DEL") (word ∷ []) (clean_literal (codes "DEL") refl) (one_clean word (clean_escape key k.2)))
    ∙ ap (λ r. and_then r (λ a. Ok (Some (Del a)))) (key_of-escape key k)

scan_again : (from upto : Bound) (limit : ℕ) → IsEnd Low from → IsEnd High upto → limit ≤ MOST_SCANNED → request (request_text (Scan from upto limit)) ≡ Ok (Some (Scan from upto limit))
scan_again from upto limit lower upper small =
    let first = end_word from in
    let second = end_word upto in
    let third = decimal limit in
    let digits = length-decimal-le 7 limit (omega arith) (omega arith) (omega arith) in
    let long = length-append (codes "SCAN") (32 ∷ (first ++ 32 ∷ (second ++ 32 ∷ third))) in
    let longer = length-append first (32 ∷ (second ++ 32 ∷ third)) in
    let longest = length-append second (32 ∷ third) in
    by_words (request_text (Scan from upto limit)) (omega (arith, long)) (omega (arith, long, longer, longest, length-end Low from lower, length-end High upto upper, digits))
    ∙ ap asked (words_of-join (codes "SCAN") (first ∷ second ∷ third ∷ []) (clean_literal (codes "SCAN") refl)
    (All-cons HasNoSpace first (second ∷ third ∷ []) (clean_end Low from lower) (two_clean second third (clean_end High upto upper) (clean_decimal limit small))))
    ∙ ap (λ r. and_then r (λ a. and_then (end_of High second) (λ b. and_then (limit_of third) (λ n. Ok (Some (Scan a b n)))))) (lower_again from lower)
    ∙ ap (λ r. and_then r (λ b. and_then (limit_of third) (λ n. Ok (Some (Scan from b n))))) (upper_again upto upper)
    ∙ ap (λ r. and_then r (λ n. Ok (Some (Scan from upto n)))) (limit_of-decimal limit small)

pub request_again : (asks : Request) → IsRequest asks → request (request_text asks) ≡ Ok (Some asks)
request_again (Put key value) is = put_again key value is.0 is.1
request_again (Get key) is = get_again key is
request_again (Del key) is = del_again key is
request_again (Scan from upto limit) is = scan_again from upto limit is.0 is.1 is.2
request_again Quit is = refl
