-- The definitions against those of `percent_encoding`.
use Rattle.std.proofs.Common.{◌≡◌, ℕ, ◌+◌, ◌*◌, ◌/◌, ◌%◌, ◌<◌, true, false, cond, eqb, ltb, not, ◌&&◌, List, [], ◌∷◌, ◌++◌, All, refl, sym, ap, ◌∙◌, arith, ⊎_elim}
use Rattle.std.specs.List.{list_all, list_any}
use Rattle.std.specs.Char.{digit_value, is_digit}
use Rattle.std.specs.Fmt.{digit_glyph}
use Rattle.std.proofs.lemmas.Bool.{cond-true, cond-false, cond_both, ltb-true, and_left, and_parts, or_parts, agree_below_at, cases_Bool}
use Rattle.std.proofs.lemmas.Bool.Decides.{nat_tests}
use Rattle.std.proofs.lemmas.List.Elements.{All-nil, All-cons, All-head, All-tail, All-append}
use Rattle.percent_encoding.specs.declared.ascii_set.AsciiSet.{AsciiSet}
use Rattle.percent_encoding.specs.AsciiSet.{should_percent_encode}
use Rattle.percent_encoding.specs.Percent.{percent_decode, percent_encode, percent_encode_byte}
use Rattle.percent_encoding.proofs.PercentLemmas.{percent_encode-nil, percent_encode_escaped, percent_encode_kept, round_trip, IsByte}
use Rattle.line_protocol.specs.Escape.{unescape, is_plain, escape_byte, escape, IsWordByte, is_upper_hex, IsEscaped}
use Rattle.line_protocol.specs.Escape.IsEscaped.{Empty, Plain, Escape}

pub unescape_is : (bytes : List ℕ) → percent_decode bytes ≡ unescape bytes
unfolding percent_decode
unescape_is [] = refl
unescape_is (b ∷ []) = refl
unescape_is (b ∷ c ∷ []) = refl
unescape_is (b ∷ high ∷ low ∷ more) =
    let t = eqb b 37 && is_digit high 16 && is_digit low 16 in
    ap (λ zs. cond t ((16 * digit_value high + digit_value low) ∷ zs) (b ∷ percent_decode (high ∷ low ∷ more))) (unescape_is more)
    ∙ ap (λ zs. cond t ((16 * digit_value high + digit_value low) ∷ unescape more) (b ∷ zs)) (unescape_is (high ∷ low ∷ more))

-- without `%` a word stands for itself
pub unescape_none : (bytes : List ℕ) → list_any (λ b. eqb b 37) bytes ≡ false → unescape bytes ≡ bytes
unescape_none [] none = refl
unescape_none (b ∷ []) none = refl
unescape_none (b ∷ c ∷ []) none = refl
unescape_none (b ∷ high ∷ low ∷ more) none =
    let parts = or_parts (eqb b 37) (list_any (λ b. eqb b 37) (high ∷ low ∷ more)) none in
    let test = and_left (eqb b 37 && is_digit high 16) (is_digit low 16) (and_left (eqb b 37) (is_digit high 16) parts.0) in
    cond-false (eqb b 37 && is_digit high 16 && is_digit low 16) ((16 * digit_value high + digit_value low) ∷ unescape more) (b ∷ unescape (high ∷ low ∷ more)) test
    ∙ ap (λ zs. b ∷ zs) (unescape_none (high ∷ low ∷ more) parts.1)

-- the set of the bytes that are escaped
abbrev pub cuts : AsciiSet
cuts = record { mask = 170141183460469231731687303715884105728 + 4294967295 + 4294967296 + 137438953472 + 4398046511104 }

pub escaped_at : (b : ℕ) → b < 256 → should_percent_encode cuts b ≡ not (is_plain b)
unfolding should_percent_encode
escaped_at b small = agree_below_at (should_percent_encode cuts) (λ b. not (is_plain b)) 256 b refl small

pub escape_is : (bytes : List ℕ) → All IsByte bytes → percent_encode cuts bytes ≡ escape bytes
unfolding percent_encode_byte
escape_is [] small = percent_encode-nil cuts
escape_is (b ∷ bytes) small =
    let own = 37 ∷ digit_glyph true (b / 16) ∷ digit_glyph true (b % 16) ∷ [] in
    let below : b < 256 = All-head IsByte b bytes small in
    let high : b / 16 % 16 ≡ b / 16 = omega arith in
    let same : percent_encode_byte b ≡ own = ap (λ d. 37 ∷ digit_glyph true d ∷ digit_glyph true (b % 16) ∷ []) high in
    let rest = escape_is bytes (All-tail IsByte b bytes small) in
    ⊎_elim
    (λ plain. percent_encode_kept cuts b bytes (escaped_at b below ∙ ap not plain) ∙ ap (λ zs. b ∷ zs) rest ∙ sym (ap (λ w. w ++ escape bytes) (cond-true (is_plain b) (b ∷ []) own plain)))
    (λ other. percent_encode_escaped cuts b bytes (escaped_at b below ∙ ap not other) ∙ ap (λ zs. percent_encode_byte b ++ zs) rest ∙ ap (λ w. w ++ escape bytes) (same ∙ sym (cond-false (is_plain b) (b ∷ []) own other)))
    (cases_Bool (is_plain b))

pub read_again : (bytes : List ℕ) → All IsByte bytes → unescape (escape bytes) ≡ bytes
read_again bytes small =
    sym (unescape_is (escape bytes)) ∙ ap percent_decode (sym (escape_is bytes small)) ∙ round_trip cuts bytes refl small

plain_word : (b : ℕ) → is_plain b ≡ true → IsWordByte b
plain_word b plain = (grind (arith, nat_tests), grind (arith, nat_tests), λ e. grind (arith, nat_tests))

glyph_word : (d : ℕ) → d < 16 → IsWordByte (digit_glyph true d)
glyph_word d small =
    cond_both (ltb d 10) (48 + d) (55 + d) IsWordByte (λ e. (omega arith, omega (arith, ltb-true d 10 e), λ f. absurd (omega (arith, f))))
    (λ e. (omega arith, omega arith, λ f. absurd (omega (arith, f))))

word_byte : (b : ℕ) → b < 256 → All IsWordByte (escape_byte b)
word_byte b small =
    let high = digit_glyph true (b / 16) in
    let low = digit_glyph true (b % 16) in
    cond_both (is_plain b) (b ∷ []) (37 ∷ high ∷ low ∷ []) (All IsWordByte)
    (λ plain. All-cons IsWordByte b [] (plain_word b plain) (All-nil IsWordByte))
    (λ other. All-cons IsWordByte 37 (high ∷ low ∷ []) (omega arith, omega arith, λ e. absurd (omega (arith, e)))
    (All-cons IsWordByte high (low ∷ []) (glyph_word (b / 16) (omega arith)) (All-cons IsWordByte low [] (glyph_word (b % 16) (omega arith)) (All-nil IsWordByte))))

pub word_bytes : (bytes : List ℕ) → All IsByte bytes → All IsWordByte (escape bytes)
word_bytes [] small = All-nil IsWordByte
word_bytes (b ∷ bytes) small =
    All-append IsWordByte (escape_byte b) (escape bytes) (word_byte b (All-head IsByte b bytes small)) (word_bytes bytes (All-tail IsByte b bytes small))

hex_below : (c : ℕ) → is_digit c 16 ≡ true → digit_value c < 16
hex_below c digit = ltb-true (digit_value c) 16 digit

-- words of bytes stand for bytes
pub unescape_bytes : (bytes : List ℕ) → All IsByte bytes → All IsByte (unescape bytes)
unescape_bytes [] small = small
unescape_bytes (b ∷ []) small = small
unescape_bytes (b ∷ c ∷ []) small = small
unescape_bytes (b ∷ high ∷ low ∷ more) small =
    let rest = All-tail IsByte b (high ∷ low ∷ more) small in
    let read = 16 * digit_value high + digit_value low in
    cond_both (eqb b 37 && is_digit high 16 && is_digit low 16) (read ∷ unescape more) (b ∷ unescape (high ∷ low ∷ more)) (All IsByte)
    (λ digits.
    let parts = and_parts (eqb b 37 && is_digit high 16) (is_digit low 16) digits in
    let first = hex_below high (and_parts (eqb b 37) (is_digit high 16) parts.0).1 in
    let second = hex_below low parts.1 in
    All-cons IsByte read (unescape more) (omega arith) (unescape_bytes more (All-tail IsByte low more (All-tail IsByte high (low ∷ more) rest))))
    (λ others. All-cons IsByte b (unescape (high ∷ low ∷ more)) (All-head IsByte b (high ∷ low ∷ more) small) (unescape_bytes (high ∷ low ∷ more) rest))

hex_glyph : (d : ℕ) → d < 16 → is_upper_hex (digit_glyph true d) ≡ true
hex_glyph d small = agree_below_at (λ d. is_upper_hex (digit_glyph true d)) (λ _. true) 16 d refl small

-- an escaped word is plain bytes and escapes
pub escape_form : (bytes : List ℕ) → All IsByte bytes → IsEscaped (escape bytes)
escape_form [] small = Empty
escape_form (b ∷ bytes) small =
    let below : b < 256 = All-head IsByte b bytes small in
    let rest = escape_form bytes (All-tail IsByte b bytes small) in
    let high = digit_glyph true (b / 16) in
    let low = digit_glyph true (b % 16) in
    cond_both (is_plain b) (b ∷ []) (37 ∷ high ∷ low ∷ []) (λ w. IsEscaped (w ++ escape bytes))
    (λ plain. Plain b (escape bytes) plain rest)
    (λ _. Escape high low (escape bytes) (hex_glyph (b / 16) (omega arith)) (hex_glyph (b % 16) (omega arith)) rest)

-- plain bytes stand for themselves
pub escape_plain : (bytes : List ℕ) → list_all is_plain bytes ≡ true → escape bytes ≡ bytes
escape_plain [] plain = refl
escape_plain (b ∷ bytes) plain =
    let own = 37 ∷ digit_glyph true (b / 16) ∷ digit_glyph true (b % 16) ∷ [] in
    let parts = and_parts (is_plain b) (list_all is_plain bytes) plain in
    ap (λ w. w ++ escape bytes) (cond-true (is_plain b) (b ∷ []) own parts.0) ∙ ap (λ zs. b ∷ zs) (escape_plain bytes parts.1)
