-- Lines have one LF.
use Rattle.std.proofs.Common.{◌≡◌, ◌≢◌, ℕ, zero, suc, ◌+◌, ◌/◌, ◌%◌, ◌≤◌, Bool, true, false, eqb, ltb, not, List, [], ◌∷◌, ◌++◌, length, take, All, codes, decimal, refl, sym, ap, ◌∙◌, arith, length-append}
use Rattle.std.specs.List.{flat_map, list_all}
use Rattle.std.specs.Fmt.{digits, digits_onto, digit_glyph}
use Rattle.std.proofs.lemmas.Bool.{cond_both, and_parts, not-true, eqb-false, leb-true}
use Rattle.std.proofs.lemmas.List.{take-take, take_at}
use Rattle.std.proofs.lemmas.List.Elements.{All-nil, All-cons, All-append}
use Rattle.map_model.specs.declared.refusal.Again as again
use Rattle.map_model.specs.declared.refusal.Again.TheVariants.{Locked, Changed, Stale, Moved, Turn, Pinned, Bin, Filled}
use Rattle.map_model.specs.declared.refusal.Full as full
use Rattle.map_model.specs.declared.refusal.Full.TheVariants.{Values, Crowded}
use Rattle.line_protocol.specs.declared.fault.Fault.{Fault as Cause}
use Rattle.line_protocol.specs.declared.fault.Fault.TheVariants.{Command, Words, Key, Value as ValueFault, Limit, Line}
use Rattle.line_protocol.specs.declared.answer.Answer.{Answer}
use Rattle.line_protocol.specs.declared.answer.Answer.TheVariants.{New, Set, Value, Absent, Gone, End, Bye, Fault, Full, Again, NoMemory}
use Rattle.line_protocol.specs.Escape.{is_plain, escape_byte, escape}
use Rattle.line_protocol.specs.ReplyLine.{number_word, number_line, escaped_word, word_line, IsOneLine}
use Rattle.line_protocol.specs.Texts.{fault_text, full_text, again_text, pair_line, text}

pub front_kept : (old mid new t : List ℕ) → take (length mid) new ≡ mid → mid ≡ old ++ t → take (length old) new ≡ old
front_kept old mid new t kept is_mid =
    let le : length old ≤ length mid = omega (arith, ap length is_mid, length-append old t) in
    sym (take-take (length old) (length mid) new le) ∙ ap (take (length old)) (kept ∙ is_mid) ∙ take_at old t (length old) refl

abbrev NoLf : ℕ → Type 0
NoLf b = b ≢ 10

abbrev HasNoLf : List ℕ → Type 0
HasNoLf word = All NoLf word

all_words : {X : Type 0} (f : X → List ℕ) → ((x : X) → HasNoLf (f x)) → (xs : List X) → HasNoLf (flat_map f xs)
all_words f each [] = All-nil NoLf
all_words f each (x ∷ xs) = All-append NoLf (f x) (flat_map f xs) (each x) (all_words f each xs)

-- a digit is above LF
high_glyph : (upper : Bool) (d : ℕ) → 48 ≤ digit_glyph upper d
high_glyph upper d = cond_both (ltb d 10) (48 + d) _ (λ g. 48 ≤ g) (λ _. omega arith) (λ _. cond_both upper (55 + d) (87 + d) (λ g. 48 ≤ g) (λ _. omega arith) (λ _. omega arith))

no_glyph : (upper : Bool) (d : ℕ) → NoLf (digit_glyph upper d)
no_glyph upper d = λ e. absurd (omega (arith, high_glyph upper d, e))

no_lf_onto : (k n : ℕ) (more : List ℕ) → HasNoLf more → HasNoLf (digits_onto k 10 false n more)
no_lf_onto zero n more clean = clean
no_lf_onto (suc k) n more clean =
    let last = digit_glyph false (n % 10) in
    let here = All-cons NoLf last more (no_glyph false (n % 10)) clean in
    cond_both (eqb (n / 10) 0) (last ∷ more) (digits_onto k 10 false (n / 10) (last ∷ more)) HasNoLf (λ _. here) (λ _. no_lf_onto k (n / 10) (last ∷ more) here)

no_lf_in_decimal : (n : ℕ) → HasNoLf (decimal n)
unfolding digits
no_lf_in_decimal n = no_lf_onto 64 n [] (All-nil NoLf)

no_lf_in_number : (n : ℕ) → HasNoLf (number_word n)
no_lf_in_number n = All-cons NoLf 32 (decimal n) (λ e. absurd (omega (arith, e))) (no_lf_in_decimal n)

no_lf_in_byte : (b : ℕ) → HasNoLf (escape_byte b)
no_lf_in_byte b =
    let high = digit_glyph true (b / 16) in
    let low = digit_glyph true (b % 16) in
    cond_both (is_plain b) (b ∷ []) (37 ∷ high ∷ low ∷ []) HasNoLf
    (λ plain.
    let above = leb-true 33 b (and_parts _ _ (and_parts _ _ plain).0).0 in
    All-cons NoLf b [] (λ e. absurd (omega (arith, e, above))) (All-nil NoLf))
    (λ _. All-cons NoLf 37 (high ∷ low ∷ []) (λ e. absurd (omega (arith, e)))
    (All-cons NoLf high (low ∷ []) (no_glyph true (b / 16)) (All-cons NoLf low [] (no_glyph true (b % 16)) (All-nil NoLf))))

no_lf_in_word : (word : List ℕ) → HasNoLf (escaped_word word)
no_lf_in_word word = All-cons NoLf 32 (escape word) (λ e. absurd (omega (arith, e))) (all_words escape_byte no_lf_in_byte word)

-- a literal is tested byte by byte
abbrev is_clean : List ℕ → Bool
is_clean front = list_all (λ b. not (eqb b 10)) front

clean_front : (front : List ℕ) → is_clean front ≡ true → HasNoLf front
clean_front [] clean = All-nil NoLf
clean_front (b ∷ front) clean =
    let parts = and_parts (not (eqb b 10)) (is_clean front) clean in
    All-cons NoLf b front (eqb-false b 10 (not-true (eqb b 10) parts.0)) (clean_front front parts.1)

numbers_one_line : (front numbers : List ℕ) → is_clean front ≡ true → IsOneLine (number_line front numbers)
numbers_one_line front numbers clean =
    (front ++ flat_map number_word numbers, refl, All-append NoLf front (flat_map number_word numbers) (clean_front front clean) (all_words number_word no_lf_in_number numbers))

words_one_line : (front : List ℕ) (words : List (List ℕ)) → is_clean front ≡ true → IsOneLine (word_line front words)
words_one_line front words clean =
    (front ++ flat_map escaped_word words, refl, All-append NoLf front (flat_map escaped_word words) (clean_front front clean) (all_words escaped_word no_lf_in_word words))

fault_one_line : (cause : Cause) → IsOneLine (fault_text cause)
fault_one_line Command = numbers_one_line (codes "ERR 1 command") [] refl
fault_one_line Words = numbers_one_line (codes "ERR 2 words") [] refl
fault_one_line Key = numbers_one_line (codes "ERR 3 key") [] refl
fault_one_line ValueFault = numbers_one_line (codes "ERR 4 value") [] refl
fault_one_line Limit = numbers_one_line (codes "ERR 5 limit") [] refl
fault_one_line Line = numbers_one_line (codes "ERR 6 line") [] refl

full_one_line : (cause : full.Full) → IsOneLine (full_text cause)
full_one_line (Values drawn cap) = numbers_one_line (codes "FULL values") (drawn ∷ cap ∷ []) refl
full_one_line (Crowded count hard why) = numbers_one_line (codes "FULL crowded") (count ∷ hard ∷ []) refl

again_one_line : (cause : again.Again) → IsOneLine (again_text cause)
again_one_line (Locked leaf holder) = numbers_one_line (codes "AGAIN locked") (leaf ∷ holder ∷ []) refl
again_one_line (Changed leaf before after) = numbers_one_line (codes "AGAIN changed") (leaf ∷ before ∷ after ∷ []) refl
again_one_line (Stale leaf expected searched) = numbers_one_line (codes "AGAIN stale") (leaf ∷ expected ∷ searched ∷ []) refl
again_one_line (Moved first second) = numbers_one_line (codes "AGAIN moved") (first ∷ second ∷ []) refl
again_one_line (Turn holder) = numbers_one_line (codes "AGAIN turn") (holder ∷ []) refl
again_one_line (Pinned table pins) = numbers_one_line (codes "AGAIN pinned") (table ∷ pins ∷ []) refl
again_one_line (Bin holder) = numbers_one_line (codes "AGAIN bin") (holder ∷ []) refl
again_one_line (Filled leaf count hard) = numbers_one_line (codes "AGAIN filled") (leaf ∷ count ∷ hard ∷ []) refl

pub text_one_line : (answer : Answer) → IsOneLine (text answer)
text_one_line New = numbers_one_line (codes "NEW") [] refl
text_one_line Set = numbers_one_line (codes "SET") [] refl
text_one_line (Value value) = words_one_line (codes "VALUE") (value.now ∷ []) refl
text_one_line Absent = numbers_one_line (codes "NONE") [] refl
text_one_line Gone = numbers_one_line (codes "GONE") [] refl
text_one_line (End count) = numbers_one_line (codes "END") (count ∷ []) refl
text_one_line Bye = numbers_one_line (codes "BYE") [] refl
text_one_line (Fault cause) = fault_one_line cause
text_one_line (Full cause) = full_one_line cause
text_one_line (Again cause) = again_one_line cause
text_one_line NoMemory = numbers_one_line (codes "NOMEM") [] refl

pub pair_one_line : (key value : List ℕ) → IsOneLine (pair_line key value)
pair_one_line key value = words_one_line (codes "PAIR") (key ∷ value ∷ []) refl
