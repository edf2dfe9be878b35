-- Made lines are requests, one a line, none of which quits.
use Rattle.std.proofs.Common.{◌≡◌, ℕ, zero, suc, ◌+◌, ◌/◌, ◌%◌, ◌^◌, ◌<◌, ◌≤◌, List, [], ◌∷◌, ◌++◌, length, Bool, true, false, not, ◌&&◌, cond, eqb, ltb, codes, decimal, refl, ap, ◌∙◌, arith, length-append, Option, Some, None, Result, Ok, Err}
use Rattle.std.proofs.lemmas.Bool.{ne_eqb}
use Rattle.std.proofs.lemmas.Fmt.{decimal_by_steps, length-decimal-le}
use Rattle.std.specs.Prelude.{◌==◌, nat_lt, if◌then◌else◌}
use Rattle.line_reader.specs.declared.limits.TheConstants.{LONGEST_LINE}
use Rattle.line_protocol.specs.declared.fault.Fault.TheVariants.{Line}
use Rattle.line_protocol.specs.declared.fault.RequestFault.{RequestFault}
use Rattle.line_protocol.specs.declared.fault.RequestFault.TheVariants.{Fault}
use Rattle.key_bytes.specs.declared.bound.Bound.TheVariants.{Low, High}
use Rattle.line_protocol.specs.declared.request.Request.TheVariants.{Put, Get, Del, Scan}
use Rattle.line_protocol.specs.Parts.{key_of, value_of, end_of, limit_of}
use Rattle.line_protocol.specs.Words.{words_of, one, two, three}
use Rattle.line_protocol.specs.Requests.{Asked, and_then, put_of, get_of, del_of, scan_of, asked, is_quit}
use Rattle.line_protocol.specs.Served.{has_bytes, quits}
use Rattle.generated_lines.specs.Generator.{digits, item_key, request_of, made_line}

-- what is asked behind a part that may be at fault doesn't quit where the rest doesn't
then_no_quit : {A : Type 0} (r : Result A RequestFault) (f : A → Asked) → ((x : A) → is_quit (f x) ≡ false) → is_quit (and_then r f) ≡ false
then_no_quit (Ok x) f none = none x
then_no_quit (Err fault) f none = refl

put_no_quit : (words : Option (List ℕ × List ℕ)) → is_quit (put_of words) ≡ false
put_no_quit None = refl
put_no_quit (Some words) = then_no_quit (key_of words.0) (λ key. and_then (value_of words.1) (λ value. Ok (Some (Put key value)))) (λ key. then_no_quit (value_of words.1) (λ value. Ok (Some (Put key value))) (λ value. refl))

get_no_quit : (word : Option (List ℕ)) → is_quit (get_of word) ≡ false
get_no_quit None = refl
get_no_quit (Some word) = then_no_quit (key_of word) (λ key. Ok (Some (Get key))) (λ key. refl)

del_no_quit : (word : Option (List ℕ)) → is_quit (del_of word) ≡ false
del_no_quit None = refl
del_no_quit (Some word) = then_no_quit (key_of word) (λ key. Ok (Some (Del key))) (λ key. refl)

scan_no_quit : (words : Option (List ℕ × List ℕ × List ℕ)) → is_quit (scan_of words) ≡ false
scan_no_quit None = refl
scan_no_quit (Some words) =
    then_no_quit (end_of Low words.0) (λ from. and_then (end_of High words.1) (λ upto. and_then (limit_of words.2) (λ limit. Ok (Some (Scan from upto limit)))))
    (λ from. then_no_quit (end_of High words.1) (λ upto. and_then (limit_of words.2) (λ limit. Ok (Some (Scan from upto limit)))) (λ upto. then_no_quit (limit_of words.2) (λ limit. Ok (Some (Scan from upto limit))) (λ limit. refl)))

-- by its words, whatever its length is
by_words : (line : List ℕ) → is_quit (asked (words_of line)) ≡ false → quits line ≡ false
by_words line none =
    elim (length line == 0) as (λ t. is_quit (if t then Ok None else if nat_lt LONGEST_LINE (length line) then Err (Fault Line) else asked (words_of line)) ≡ false) [
      | true ↦ refl
      | false ↦ elim (nat_lt LONGEST_LINE (length line)) as (λ t. is_quit (if t then Err (Fault Line) else asked (words_of line)) ≡ false) [ true ↦ refl | false ↦ none ]
    ]

-- neither LF nor CR is among the bytes
abbrev pub clean : List ℕ → Bool
clean [] = true
clean (b ∷ bytes) = not (eqb b 10) && (not (eqb b 13) && clean bytes)

clean-append : (xs ys : List ℕ) → clean xs ≡ true → clean ys ≡ true → clean (xs ++ ys) ≡ true
clean-append [] ys first second = second
clean-append (x ∷ xs) ys first second =
    (elim (eqb x 10) as (λ t. (not t && (not (eqb x 13) && clean xs)) ≡ true → (not t && (not (eqb x 13) && clean (xs ++ ys))) ≡ true) [
      | true ↦ λ no. no
      | false ↦ elim (eqb x 13) as (λ t. (not t && clean xs) ≡ true → (not t && clean (xs ++ ys)) ≡ true) [
        | true ↦ λ no. no
        | false ↦ λ rest. clean-append xs ys rest second
      ]
    ]) first

clean_digit : (d : ℕ) → clean ((48 + d) ∷ []) ≡ true
clean_digit d = ap (λ t. not t && (not (eqb (48 + d) 13) && true)) (ne_eqb (48 + d) 10 (λ e. absurd (omega (arith, e)))) ∙ ap (λ t. not t && true) (ne_eqb (48 + d) 13 (λ e. absurd (omega (arith, e))))

clean_digits : (width n : ℕ) → clean (digits width n) ≡ true
clean_digits zero n = refl
clean_digits (suc width) n = clean-append (digits width (n / 10)) ((48 + n % 10) ∷ []) (clean_digits width (n / 10)) (clean_digit (n % 10))

clean_decimal : (n : ℕ) → n < 2 ^ 64 → clean (decimal n) ≡ true
clean_decimal n = decimal_by_steps (λ _ ds. clean ds ≡ true) (λ n small. clean_digit n) (λ n ds large so_far. clean-append ds ((48 + n % 10) ∷ []) so_far (clean_digit (n % 10))) n

length_digits : (width n : ℕ) → length (digits width n) ≡ width
length_digits zero n = refl
length_digits (suc width) n = let front = length_digits width (n / 10) in let all = length-append (digits width (n / 10)) ((48 + n % 10) ∷ []) in omega (arith, all, front)

clean_key : (item : ℕ) → clean (item_key item) ≡ true
clean_key item =
    clean-append (codes "http://host") (digits 2 (item % 50) ++ (codes ".example/item/" ++ digits 6 item)) refl
    (clean-append (digits 2 (item % 50)) (codes ".example/item/" ++ digits 6 item) (clean_digits 2 (item % 50)) (clean-append (codes ".example/item/") (digits 6 item) refl (clean_digits 6 item)))

length_key : (item : ℕ) → length (item_key item) ≡ 33
length_key item =
    let host = length_digits 2 (item % 50) in
    let number = length_digits 6 item in
    let a = length-append (digits 2 (item % 50)) (codes ".example/item/" ++ digits 6 item) in omega (arith, host, number, a)

-- a line of a request: it isn't empty, doesn't quit, has neither LF nor CR, and isn't long
pub record IsMade (line : List ℕ) : Type 0 where
  pub some : has_bytes line ≡ true
  pub stays : quits line ≡ false
  pub is_clean : clean line ≡ true
  pub short : length line ≤ 49

by_kind : (P : List ℕ → Type 0) (kind : ℕ) (key : List ℕ) (at : ℕ) → P (codes "PUT " ++ (key ++ (codes " " ++ decimal at))) → P (codes "GET " ++ key) → P (codes "DEL " ++ key) → P (codes "SCAN " ++ (key ++ codes " * 20")) → P (request_of kind key at)
by_kind P kind key at put get del scan =
    elim (ltb kind 8) as (λ t. P (cond t (codes "PUT " ++ (key ++ (codes " " ++ decimal at))) (cond (ltb kind 13) (codes "GET " ++ key) (cond (ltb kind 15) (codes "DEL " ++ key) (codes "SCAN " ++ (key ++ codes " * 20")))))) [
      | true ↦ put
      | false ↦ elim (ltb kind 13) as (λ t. P (cond t (codes "GET " ++ key) (cond (ltb kind 15) (codes "DEL " ++ key) (codes "SCAN " ++ (key ++ codes " * 20"))))) [
        | true ↦ get
        | false ↦ elim (ltb kind 15) as (λ t. P (cond t (codes "DEL " ++ key) (codes "SCAN " ++ (key ++ codes " * 20")))) [ true ↦ del | false ↦ scan ]
      ]
    ]

pub line_made : (at x : ℕ) → at < 2 ^ 32 → IsMade (made_line at x)
line_made at x small =
    let item = x / 2 ^ 32 % 10000 in
    let key = item_key item in
    let long = length_key item in
    let wide = length-decimal-le 10 at (omega arith) (omega arith) (omega arith) in by_kind IsMade (x / 2 ^ 60) key at
    record {
      some = refl;
      stays = by_words (codes "PUT " ++ (key ++ (codes " " ++ decimal at))) (put_no_quit (two (words_of (key ++ (codes " " ++ decimal at)))));
      is_clean = clean-append (codes "PUT ") (key ++ (codes " " ++ decimal at)) refl (clean-append key (codes " " ++ decimal at) (clean_key item) (clean-append (codes " ") (decimal at) refl (clean_decimal at (omega arith))));
      short = let a = length-append key (codes " " ++ decimal at) in omega (arith, a, long, wide);
    }
    record { some = refl; stays = by_words (codes "GET " ++ key) (get_no_quit (one (words_of key))); is_clean = clean-append (codes "GET ") key refl (clean_key item); short = omega (arith, long) }
    record { some = refl; stays = by_words (codes "DEL " ++ key) (del_no_quit (one (words_of key))); is_clean = clean-append (codes "DEL ") key refl (clean_key item); short = omega (arith, long) }
    record {
      some = refl;
      stays = by_words (codes "SCAN " ++ (key ++ codes " * 20")) (scan_no_quit (three (words_of (key ++ codes " * 20"))));
      is_clean = clean-append (codes "SCAN ") (key ++ codes " * 20") refl (clean-append key (codes " * 20") (clean_key item) refl);
      short = let a = length-append key (codes " * 20") in omega (arith, a, long);
    }
