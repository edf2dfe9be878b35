-- The made lines are the lines of their text, all of them are served, and a first part of the text is served without an end.
use Rattle.std.proofs.Common.{◌≡◌, ℕ, zero, suc, ◌+◌, ◌-◌, ◌*◌, ◌^◌, ◌≤◌, List, [], ◌∷◌, ◌++◌, take, length, filter, true, false, not, ◌&&◌, ◌||◌, cond, eqb, refl, sym, ap, ◌∙◌, subst, append_assoc, arith, length-append}
use Rattle.std.specs.List.{list_any}
use Rattle.std.specs.Prelude.{slice_index, ◌==◌}
use Rattle.std.proofs.lemmas.List.{append-nil}
use mathlib.Core.List.{IsPrefix}
use Rattle.line_reader.specs.Cut.{without_cr, lines, ended_lines, open_part, last_line}
use Rattle.line_reader.proofs.Cutting.{ended_lines-append, open_part-append, lines_are}
use Rattle.line_protocol.specs.Served.{has_bytes, quits, until_quit, served}
use Rattle.line_protocol.proofs.Serving.{until_quit_none}
use Rattle.generated_lines.specs.Generator.{next_number, made_from, lines_text}
use Rattle.fill_runs.proofs.Requests.{clean, IsMade, line_made}

-- bytes without LF are no line yet
clean_open : (part bytes : List ℕ) → clean bytes ≡ true → (ended_lines part bytes ≡ []) × (open_part part bytes ≡ part ++ bytes)
clean_open part [] is = (refl, sym (append-nil part))
clean_open part (b ∷ bytes) is =
    (elim (eqb b 10) as (λ t. (not t && (not (eqb b 13) && clean bytes)) ≡ true → (cond t (without_cr part ∷ ended_lines [] bytes) (ended_lines (part ++ b ∷ []) bytes) ≡ []) × (cond t (open_part [] bytes) (open_part (part ++ b ∷ []) bytes) ≡ part ++ (b ∷ bytes))) [
      | true ↦ λ no. cc
      | false ↦ elim (eqb b 13) as (λ t. (not t && clean bytes) ≡ true → (ended_lines (part ++ b ∷ []) bytes ≡ []) × (open_part (part ++ b ∷ []) bytes ≡ part ++ (b ∷ bytes))) [
        | true ↦ λ no. cc
        | false ↦ λ rest. let later = clean_open (part ++ b ∷ []) bytes rest in (later.0, later.1 ∙ append_assoc part (b ∷ []) bytes)
      ]
    ]) is

-- and without CR it loses nothing at its end
clean_last : (line : List ℕ) (i : ℕ) → clean line ≡ true → (slice_index line i == 13) ≡ false
clean_last [] i is = refl
clean_last (b ∷ line) zero is =
    (elim (eqb b 10) as (λ t. (not t && (not (eqb b 13) && clean line)) ≡ true → eqb b 13 ≡ false) [
      | true ↦ λ no. cc
      | false ↦ elim (eqb b 13) as (λ t. (not t && clean line) ≡ true → t ≡ false) [ true ↦ λ no. cc | false ↦ λ rest. refl ]
    ]) is
clean_last (b ∷ line) (suc i) is =
    (elim (eqb b 10) as (λ t. (not t && (not (eqb b 13) && clean line)) ≡ true → (slice_index line i == 13) ≡ false) [
      | true ↦ λ no. cc
      | false ↦ elim (eqb b 13) as (λ t. (not t && clean line) ≡ true → (slice_index line i == 13) ≡ false) [ true ↦ λ no. cc | false ↦ λ rest. clean_last line i rest ]
    ]) is

clean_same : (line : List ℕ) → clean line ≡ true → without_cr line ≡ line
clean_same line is = ap (λ t. cond t (take (length line - 1) line) line) (clean_last line (length line - 1) is)

-- one line and its LF
one_line : (line : List ℕ) → clean line ≡ true → (ended_lines [] (line ++ 10 ∷ []) ≡ line ∷ []) × (open_part [] (line ++ 10 ∷ []) ≡ [])
one_line line is =
    let kept = clean_open [] line is in (
      ended_lines-append [] line (10 ∷ []) ∙ (ap (λ ls. ls ++ without_cr (open_part [] line) ∷ []) kept.0 ∙ ap (λ p. p ∷ []) (ap without_cr kept.1 ∙ clean_same line is)),
      open_part-append [] line (10 ∷ []),
    )

-- many of them
abbrev pub AreMade : List (List ℕ) → Type 0
AreMade [] = Unit {0}
AreMade (line ∷ ls) = IsMade line × AreMade ls

pub made_are : (x at count : ℕ) → at + count ≤ 2 ^ 32 → AreMade (made_from x at count)
made_are x at zero small = tt
made_are x at (suc count) small = (line_made at (next_number x) (omega arith), made_are (next_number x) (at + 1) count (omega arith))

cut_again : (ls : List (List ℕ)) → AreMade ls → (ended_lines [] (lines_text ls) ≡ ls) × (open_part [] (lines_text ls) ≡ [])
cut_again [] are = (refl, refl)
cut_again (line ∷ ls) are =
    let one = one_line line are.0.is_clean in
    let rest = cut_again ls are.1 in (
      ended_lines-append [] (line ++ 10 ∷ []) (lines_text ls) ∙ (ap (λ front. front ++ ended_lines (open_part [] (line ++ 10 ∷ [])) (lines_text ls)) one.0 ∙ ap (λ p. line ∷ ended_lines p (lines_text ls)) one.1 ∙ ap (λ l. line ∷ l) rest.0),
      open_part-append [] (line ++ 10 ∷ []) (lines_text ls) ∙ (ap (λ p. open_part p (lines_text ls)) one.1 ∙ rest.1),
    )

none_empty : (ls : List (List ℕ)) → AreMade ls → filter has_bytes ls ≡ ls
none_empty [] are = refl
none_empty (line ∷ ls) are = ap (λ t. cond t (line ∷ filter has_bytes ls) (filter has_bytes ls)) are.0.some ∙ ap (λ l. line ∷ l) (none_empty ls are.1)

pub none_quits : (ls : List (List ℕ)) → AreMade ls → list_any quits ls ≡ false
none_quits [] are = refl
none_quits (line ∷ ls) are = ap (λ t. t || list_any quits ls) are.0.stays ∙ none_quits ls are.1

-- all lines of the text are served
pub all_served : (ls : List (List ℕ)) → AreMade ls → served (lines_text ls) true ≡ ls
all_served ls are =
    let cut = cut_again ls are in
    let these : lines (lines_text ls) true ≡ ls = lines_are (lines_text ls) true ∙ (ap (λ l. l ++ last_line (open_part [] (lines_text ls))) cut.0 ∙ (ap (λ p. ls ++ last_line p) cut.1 ∙ append-nil ls)) in
    ap (λ l. until_quit (filter has_bytes l)) these ∙ (ap until_quit (none_empty ls are) ∙ until_quit_none ls (none_quits ls are))

-- a first part of made lines is one of made lines
front_made : (some rest : List (List ℕ)) → AreMade (some ++ rest) → AreMade some
front_made [] rest are = tt
front_made (line ∷ some) rest are = (are.0, front_made some rest are.1)

-- of a first part of the text, the lines that ended are served, which are first lines
pub some_served : (ls : List (List ℕ)) (bytes rest : List ℕ) → AreMade ls → bytes ++ rest ≡ lines_text ls → IsPrefix (served bytes false) ls × (list_any quits (served bytes false) ≡ false)
some_served ls bytes rest are is =
    let some = ended_lines [] bytes in
    let more = ended_lines (open_part [] bytes) rest in
    let whole : some ++ more ≡ ls = sym (ended_lines-append [] bytes rest) ∙ (ap (ended_lines []) is ∙ (cut_again ls are).0) in
    let some_are : AreMade some = front_made some more (subst AreMade (sym whole) are) in
    let these : lines bytes false ≡ some = lines_are bytes false ∙ append-nil some in
    let same : served bytes false ≡ some = ap (λ l. until_quit (filter has_bytes l)) these ∙ (ap until_quit (none_empty some some_are) ∙ until_quit_none some (none_quits some some_are)) in (
      (more, ap (λ l. l ++ more) same ∙ whole),
      ap (list_any quits) same ∙ none_quits some some_are,
    )

-- at most 50 bytes a line
pub text_short : (ls : List (List ℕ)) → AreMade ls → length (lines_text ls) ≤ 50 * length ls
text_short [] are = omega arith
text_short (line ∷ ls) are =
    let rest = text_short ls are.1 in
    let short = are.0.short in
    let a = length-append (line ++ 10 ∷ []) (lines_text ls) in
    let b = length-append line (10 ∷ []) in omega (arith, rest, short, a, b)

pub made_count : (x at count : ℕ) → length (made_from x at count) ≡ count
made_count x at zero = refl
made_count x at (suc count) = let rest = made_count (next_number x) (at + 1) count in omega (arith, rest)
