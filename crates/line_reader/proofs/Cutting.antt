-- Laws of cutting into lines.
use Rattle.std.proofs.Common.{◌≡◌, ◌≢◌, ℕ, suc, ◌+◌, ◌<◌, Bool, true, false, cond, eqb, List, [], ◌∷◌, ◌++◌, length, take, drop, map, refl, sym, ap, ◌∙◌, append_assoc, arith}
use Rattle.std.specs.List.{slice_split, onto_first}
use Rattle.std.proofs.Math.Seq.{take-add}
use Rattle.std.proofs.lemmas.List.{append-nil, map-append, take_more, length-take-le, get_or-take}
use Rattle.std.proofs.lemmas.List.Elements.{All-from_get_or}
use Rattle.std.proofs.lemmas.Bool.{cond-false, false_from_ne_true, eqb-true, eq-eqb}
use Rattle.memchr.specs.Find.{Passes, is_byte, Nowhere}
use Rattle.line_reader.specs.Cut.{HasNoLf, is_lf, without_cr, last_part, line_parts, lines, ended_lines, open_part, last_line}
use Rattle.line_reader.specs.Told.{tells, told_lines, last_told}

-- the lines of two pieces are those of the first, and those of the second behind what the first left open
pub ended_lines-append : (part xs ys : List ℕ) → ended_lines part (xs ++ ys) ≡ ended_lines part xs ++ ended_lines (open_part part xs) ys
ended_lines-append part [] ys = refl
ended_lines-append part (b ∷ xs) ys =
    elim (eqb b 10) as (λ t. cond t (without_cr part ∷ ended_lines [] (xs ++ ys)) (ended_lines (part ++ b ∷ []) (xs ++ ys)) ≡ cond t (without_cr part ∷ ended_lines [] xs) (ended_lines (part ++ b ∷ []) xs) ++ ended_lines (cond t (open_part [] xs) (open_part (part ++ b ∷ []) xs)) ys) [
      | true ↦ ap (λ ls. without_cr part ∷ ls) (ended_lines-append [] xs ys)
      | false ↦ ended_lines-append (part ++ b ∷ []) xs ys
    ]

pub open_part-append : (part xs ys : List ℕ) → open_part part (xs ++ ys) ≡ open_part (open_part part xs) ys
open_part-append part [] ys = refl
open_part-append part (b ∷ xs) ys =
    elim (eqb b 10) as (λ t. cond t (open_part [] (xs ++ ys)) (open_part (part ++ b ∷ []) (xs ++ ys)) ≡ open_part (cond t (open_part [] xs) (open_part (part ++ b ∷ []) xs)) ys) [
      | true ↦ open_part-append [] xs ys
      | false ↦ open_part-append (part ++ b ∷ []) xs ys
    ]

-- no LF is among the bytes
abbrev pub IsOneLine : List ℕ → Type 0
IsOneLine bytes = Nowhere (Passes (is_byte 10) bytes) 0 (length bytes)

not_first : (b : ℕ) (bytes : List ℕ) → IsOneLine (b ∷ bytes) → eqb b 10 ≡ false
not_first b bytes none = false_from_ne_true _ (none 0 (omega arith) (omega arith))

not_later : (b : ℕ) (bytes : List ℕ) → IsOneLine (b ∷ bytes) → IsOneLine bytes
not_later b bytes none = λ k low high. none (suc k) (omega arith) (omega arith)

pub ended_lines_none : (part bytes : List ℕ) → IsOneLine bytes → ended_lines part bytes ≡ []
ended_lines_none part [] none = refl
ended_lines_none part (b ∷ bytes) none =
    cond-false _ _ _ (not_first b bytes none) ∙ ended_lines_none (part ++ b ∷ []) bytes (not_later b bytes none)

pub open_part_none : (part bytes : List ℕ) → IsOneLine bytes → open_part part bytes ≡ part ++ bytes
open_part_none part [] none = sym (append-nil part)
open_part_none part (b ∷ bytes) none =
    cond-false _ _ _ (not_first b bytes none) ∙ open_part_none (part ++ b ∷ []) bytes (not_later b bytes none) ∙ append_assoc part (b ∷ []) bytes

-- up to and with the first LF there is one line
pub ended_lines_one : (part bytes : List ℕ) → IsOneLine bytes → ended_lines part (bytes ++ 10 ∷ []) ≡ without_cr (part ++ bytes) ∷ []
ended_lines_one part bytes none =
    ended_lines-append part bytes (10 ∷ []) ∙ ap (λ ls. ls ++ without_cr (open_part part bytes) ∷ []) (ended_lines_none part bytes none) ∙ ap (λ p. without_cr p ∷ []) (open_part_none part bytes none)

pub open_part_one : (part bytes : List ℕ) → open_part part (bytes ++ 10 ∷ []) ≡ []
open_part_one part bytes = open_part-append part bytes (10 ∷ [])

-- the same at the first place of an LF
pub front_at : (bytes : List ℕ) (at : ℕ) → at < length bytes → Passes (is_byte 10) bytes at → take (at + 1) bytes ≡ take at bytes ++ 10 ∷ []
front_at bytes at within here = take_more bytes at 0 within ∙ ap (λ b. take at bytes ++ b ∷ []) (eqb-true _ _ here)

pub front_none : (bytes : List ℕ) (at : ℕ) → at < length bytes → Nowhere (Passes (is_byte 10) bytes) 0 at → IsOneLine (take at bytes)
front_none bytes at within none = λ k low high here.
    let below : k < at = omega (arith, length-take-le at bytes) in
    none k low below (ap (λ b. eqb b 10) (sym (get_or-take at bytes k 0 below)) ∙ here)

pub told_lines-append : (part xs ys : List ℕ) → told_lines part (xs ++ ys) ≡ told_lines part xs ++ told_lines (open_part part xs) ys
told_lines-append part xs ys = ap (map tells) (ended_lines-append part xs ys) ∙ map-append tells (ended_lines part xs) (ended_lines (open_part part xs) ys)

pub HasNoLf_none : (bytes : List ℕ) → IsOneLine bytes → HasNoLf bytes
HasNoLf_none bytes none = All-from_get_or (λ b. b ≢ 10) bytes 0 (λ i below e. none i (omega arith) below (eq-eqb _ _ e))

-- a further piece
pub told_more : (part piece slice : List ℕ) (at used : ℕ) → slice ≡ drop at piece → told_lines part (take (at + used) piece) ≡ told_lines part (take at piece) ++ told_lines (open_part part (take at piece)) (take used slice)
told_more part piece slice at used e =
    ap (told_lines part) (take-add at used piece ∙ ap (λ s. take at piece ++ take used s) (sym e)) ∙ told_lines-append part (take at piece) (take used slice)

pub open_more : (part piece slice : List ℕ) (at used : ℕ) → slice ≡ drop at piece → open_part part (take (at + used) piece) ≡ open_part (open_part part (take at piece)) (take used slice)
open_more part piece slice at used e =
    ap (open_part part) (take-add at used piece ∙ ap (λ s. take at piece ++ take used s) (sym e)) ∙ open_part-append part (take at piece) (take used slice)

-- there is a first part
record IsSome (parts : List (List ℕ)) : Type 0 where
  first : List ℕ
  others : List (List ℕ)
  whole : parts ≡ first ∷ others

onto_some : (b : ℕ) (parts : List (List ℕ)) → IsSome (onto_first b parts)
onto_some b [] = record { first = b ∷ []; others = []; whole = refl }
onto_some b (part ∷ parts) = record { first = b ∷ part; others = parts; whole = refl }

parts_some : (bytes : List ℕ) → IsSome (slice_split is_lf bytes)
parts_some [] = record { first = []; others = []; whole = refl }
parts_some (b ∷ bytes) =
    elim (eqb b 10) as (λ t. IsSome (cond t ([] ∷ slice_split is_lf bytes) (onto_first b (slice_split is_lf bytes)))) [
      | true ↦ record { first = []; others = slice_split is_lf bytes; whole = refl }
      | false ↦ onto_some b (slice_split is_lf bytes)
    ]

-- the parts with these bytes in front of the first
abbrev onto_part : List ℕ → List (List ℕ) → List (List ℕ)
onto_part part [] = part ∷ []
onto_part part (first ∷ others) = (part ++ first) ∷ others

-- the lines of parts, with these bytes in front of the first
abbrev lines_onto : Bool → List ℕ → List (List ℕ) → List (List ℕ)
lines_onto ended part parts = map without_cr (line_parts ended (onto_part part parts))

last_is : (ended : Bool) (part : List ℕ) → map without_cr (last_part ended part) ≡ cond ended (last_line part) []
last_is false [] = refl
last_is false (b ∷ part) = refl
last_is true [] = refl
last_is true (b ∷ part) = refl

onto_none : (part : List ℕ) (parts : List (List ℕ)) → IsSome parts → onto_part [] parts ≡ parts
onto_none part parts some = ap (onto_part []) some.whole ∙ sym some.whole

-- behind an LF
onto_ended : (ended : Bool) (part : List ℕ) (parts : List (List ℕ)) → IsSome parts → lines_onto ended part ([] ∷ parts) ≡ without_cr part ∷ lines_onto ended [] parts
onto_ended ended part parts some =
    ap (λ ps. map without_cr (line_parts ended ((part ++ []) ∷ ps))) some.whole
    ∙ ap (λ p. without_cr p ∷ map without_cr (line_parts ended (some.first ∷ some.others))) (append-nil part)
    ∙ ap (λ ps. without_cr part ∷ lines_onto ended [] ps) (sym some.whole)

-- behind another byte
onto_open : (ended : Bool) (part : List ℕ) (b : ℕ) (parts : List (List ℕ)) → IsSome parts → lines_onto ended part (onto_first b parts) ≡ lines_onto ended (part ++ b ∷ []) parts
onto_open ended part b parts some =
    ap (λ ps. lines_onto ended part (onto_first b ps)) some.whole
    ∙ ap (λ p. map without_cr (line_parts ended (p ∷ some.others))) (sym (append_assoc part (b ∷ []) some.first))
    ∙ ap (lines_onto ended (part ++ b ∷ [])) (sym some.whole)

lines_behind : (ended : Bool) (part bytes : List ℕ) → lines_onto ended part (slice_split is_lf bytes) ≡ ended_lines part bytes ++ cond ended (last_line (open_part part bytes)) []
lines_behind ended part [] = ap (λ p. map without_cr (last_part ended p)) (append-nil part) ∙ last_is ended part
lines_behind ended part (b ∷ bytes) =
    elim (eqb b 10) as (λ t. lines_onto ended part (cond t ([] ∷ slice_split is_lf bytes) (onto_first b (slice_split is_lf bytes))) ≡ cond t (without_cr part ∷ ended_lines [] bytes) (ended_lines (part ++ b ∷ []) bytes) ++ cond ended (last_line (cond t (open_part [] bytes) (open_part (part ++ b ∷ []) bytes))) []) [
      | true ↦ onto_ended ended part (slice_split is_lf bytes) (parts_some bytes) ∙ ap (λ ls. without_cr part ∷ ls) (lines_behind ended [] bytes)
      | false ↦ onto_open ended part b (slice_split is_lf bytes) (parts_some bytes) ∙ lines_behind ended (part ++ b ∷ []) bytes
    ]

-- the lines of bytes, told byte by byte: those that end in an LF, and where the input is ended that of the part behind the last LF
pub lines_are : (bytes : List ℕ) (ended : Bool) → lines bytes ended ≡ ended_lines [] bytes ++ cond ended (last_line (open_part [] bytes)) []
lines_are bytes ended = ap (λ ps. map without_cr (line_parts ended ps)) (sym (onto_none [] (slice_split is_lf bytes) (parts_some bytes))) ∙ lines_behind ended [] bytes

-- what is told of bytes as a whole
pub told_all : (bytes : List ℕ) → map tells (lines bytes true) ≡ told_lines [] bytes ++ last_told (open_part [] bytes)
told_all bytes = ap (map tells) (lines_are bytes true) ∙ map-append tells (ended_lines [] bytes) (last_line (open_part [] bytes))
