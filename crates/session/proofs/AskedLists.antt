-- What lines ask for, one list behind another and up to the end of a session.
use Rattle.std.proofs.Common.{◌≡◌, ℕ, suc, ⊎_elim, List, [], ◌∷◌, ◌++◌, length, map, filter, Bool, true, false, cond, eqb, ltb, refl, sym, ap, ◌∙◌, subst, ◌||◌, if◌then◌else◌, Option, None, Some, Ok, Err, arith}
use Rattle.std.specs.List.{list_any}
use Rattle.std.proofs.lemmas.Bool.{ne_eqb, cond-true, cond-false, cases_Bool}
use Rattle.std.proofs.lemmas.List.Elements.{filter-append}
use Rattle.std.proofs.lemmas.List.{append-nil, map-append}
use Rattle.std.proofs.lemmas.List.Concat.{flat_map-append}
use mathlib.Core.List.{IsPrefix}
use Rattle.line_reader.specs.Cut.{lines, ended_lines, open_part, last_line, without_cr}
use Rattle.line_reader.specs.Told.{Told, tells, told, told_lines, last_told}
use Rattle.line_reader.specs.declared.lines.Event.{Event}
use Rattle.line_reader.specs.declared.lines.Event.TheVariants as events
use Rattle.line_reader.specs.Told.Told.{Read, Long}
use Rattle.line_reader.specs.declared.limits.TheConstants.{LONGEST_LINE}
use Rattle.line_reader.proofs.Cutting.{lines_are}
use Rattle.line_protocol.specs.Words.{words_of}
use Rattle.line_protocol.specs.Requests.{Asked, asked, request, is_quit}
use Rattle.line_protocol.specs.Served.{has_bytes, quits, until_quit, served}
use Rattle.line_protocol.specs.declared.fault.Fault.TheVariants.{Line}
use Rattle.line_protocol.specs.declared.fault.RequestFault.TheVariants.{Fault}
use Rattle.line_protocol.proofs.Serving.{request_none}
use Rattle.session.specs.Asked.{if_any, asked_by, asked_by_all, has_quit, upto_quit}
use Rattle.session.proofs.Gaining.{begins_behind, begins_then}

pub quit-append : (xs ys : List Asked) → has_quit (xs ++ ys) ≡ (has_quit xs || has_quit ys)
quit-append [] ys = refl
quit-append (x ∷ xs) ys =
    elim (is_quit x) as (λ b. (b || has_quit (xs ++ ys)) ≡ ((b || has_quit xs) || has_quit ys)) [
      | true ↦ refl
      | false ↦ quit-append xs ys
    ]

pub upto-append : (xs ys : List Asked) → has_quit xs ≡ false → upto_quit (xs ++ ys) ≡ xs ++ upto_quit ys
upto-append [] ys none = refl
upto-append (x ∷ xs) ys none =
    (elim (is_quit x) as (λ b. (b || has_quit xs) ≡ false → x ∷ (if b then [] else upto_quit (xs ++ ys)) ≡ x ∷ (xs ++ upto_quit ys)) [
      | true ↦ λ no. absurd cc
      | false ↦ λ no. ap (λ w. x ∷ w) (upto-append xs ys no)
    ]) none

pub upto-append_quit : (xs ys : List Asked) → has_quit xs ≡ true → upto_quit (xs ++ ys) ≡ upto_quit xs
upto-append_quit [] ys some = absurd cc
upto-append_quit (x ∷ xs) ys some =
    (elim (is_quit x) as (λ b. (b || has_quit xs) ≡ true → x ∷ (if b then [] else upto_quit (xs ++ ys)) ≡ x ∷ (if b then [] else upto_quit xs)) [
      | true ↦ λ here. refl
      | false ↦ λ later. ap (λ w. x ∷ w) (upto-append_quit xs ys later)
    ]) some

pub upto_none : (xs : List Asked) → has_quit xs ≡ false → upto_quit xs ≡ xs
upto_none xs none = ap upto_quit (sym (append-nil xs)) ∙ (upto-append xs [] none ∙ append-nil xs)

pub quit-upto : (xs : List Asked) → has_quit (upto_quit xs) ≡ has_quit xs
quit-upto [] = refl
quit-upto (x ∷ xs) =
    elim (is_quit x) as (λ b. (b || has_quit (if b then [] else upto_quit xs)) ≡ (b || has_quit xs)) [
      | true ↦ refl
      | false ↦ quit-upto xs
    ]

-- what is asked for up to the end of a session begins what is asked for by more
pub upto_begins : (xs ys : List Asked) → IsPrefix (upto_quit xs) (upto_quit (xs ++ ys))
upto_begins [] ys = (upto_quit ys, refl)
upto_begins (x ∷ xs) ys =
    elim (is_quit x) as (λ b. IsPrefix (x ∷ (if b then [] else upto_quit xs)) (x ∷ (if b then [] else upto_quit (xs ++ ys)))) [
      | true ↦ ([], refl)
      | false ↦ begins_behind (x ∷ []) (upto_quit xs) (upto_quit (xs ++ ys)) (upto_begins xs ys)
    ]

-- one thing at most is asked for by a line
pub upto_any : (asks : Asked) → upto_quit (if_any asks) ≡ if_any asks
upto_any (Ok None) = refl
upto_any (Ok (Some r)) = let asks : Asked = Ok (Some r) in elim (is_quit asks) as (λ b. ◌≡◌ {A = List Asked} (asks ∷ (if b then [] else [])) (asks ∷ [])) [ true ↦ refl | false ↦ refl ]
upto_any (Err fault) = refl

pub upto_asked : (told : Told) → upto_quit (asked_by told) ≡ asked_by told
upto_asked (Read line) = upto_any (request line)
upto_asked Long = refl

-- what isn't nothing is asked for
any_asked : (asks : Asked) → (asks ≡ Ok None → ⊥) → if_any asks ≡ asks ∷ []
any_asked (Ok None) some = absurd (some refl)
any_asked (Ok (Some r)) some = refl
any_asked (Err fault) some = refl

not_empty : (n : ℕ) → eqb (suc n) 0 ≡ false
not_empty n = ne_eqb (suc n) 0 (λ e. absurd (omega (arith, e)))

-- what a line asks for, as it is told
line_asks : (line : List ℕ) → map request (filter has_bytes (line ∷ [])) ≡ asked_by (tells line)
line_asks [] = refl
line_asks (b ∷ line) =
    let all = b ∷ line in
    let fault : Asked = Err (Fault Line) in
    let words = asked (words_of all) in
    ⊎_elim
    (λ long.
    let is : request all ≡ fault = cond-false _ _ (cond (ltb LONGEST_LINE (length all)) fault words) (not_empty (length line)) ∙ cond-true _ fault words long in
    ap (λ r. r ∷ []) is ∙ ap asked_by (sym (cond-true _ Long (Read all) long)))
    (λ short. sym (any_asked (request all) (λ none. let no : b ∷ line ≡ [] = request_none all none in cc)) ∙ ap asked_by (sym (cond-false _ Long (Read all) short)))
    (cases_Bool (ltb LONGEST_LINE (length all)))

lines_ask : (ls : List (List ℕ)) → map request (filter has_bytes ls) ≡ asked_by_all (map tells ls)
lines_ask [] = refl
lines_ask (line ∷ ls) =
    ap (map request) (filter-append has_bytes (line ∷ []) ls) ∙ (map-append request (filter has_bytes (line ∷ [])) (filter has_bytes ls) ∙ (ap (λ w. w ++ map request (filter has_bytes ls)) (line_asks line) ∙ ap (λ w. asked_by (tells line) ++ w) (lines_ask ls)))

until_asks : (ls : List (List ℕ)) → map request (until_quit ls) ≡ upto_quit (map request ls)
until_asks [] = refl
until_asks (line ∷ ls) =
    elim (is_quit (request line)) as (λ b. request line ∷ map request (if b then [] else until_quit ls) ≡ request line ∷ (if b then [] else upto_quit (map request ls))) [
      | true ↦ refl
      | false ↦ ap (λ w. request line ∷ w) (until_asks ls)
    ]

pub quit_lines : (ls : List (List ℕ)) → list_any quits ls ≡ has_quit (map request ls)
quit_lines [] = refl
quit_lines (line ∷ ls) = ap (λ b. is_quit (request line) || b) (quit_lines ls)

asked-append : (xs ys : List Told) → asked_by_all (xs ++ ys) ≡ asked_by_all xs ++ asked_by_all ys
asked-append xs ys = flat_map-append asked_by xs ys

-- What the served lines of bytes ask for, where the input isn't ended, and where it is.
pub asked_open : (bytes : List ℕ) → map request (served bytes false) ≡ upto_quit (asked_by_all (told_lines [] bytes))
asked_open bytes =
    until_asks (filter has_bytes (lines bytes false)) ∙ (ap upto_quit (lines_ask (lines bytes false)) ∙ ap (λ ls. upto_quit (asked_by_all (map tells ls))) (lines_are bytes false ∙ append-nil (ended_lines [] bytes)))

pub asked_ended : (bytes : List ℕ) → map request (served bytes true) ≡ upto_quit (asked_by_all (told_lines [] bytes) ++ asked_by_all (last_told (open_part [] bytes)))
asked_ended bytes =
    until_asks (filter has_bytes (lines bytes true)) ∙ (ap upto_quit (lines_ask (lines bytes true)) ∙ (ap (λ ls. upto_quit (asked_by_all (map tells ls))) (lines_are bytes true)
    ∙ ap upto_quit (ap asked_by_all (map-append tells (ended_lines [] bytes) (last_line (open_part [] bytes))) ∙ asked-append (told_lines [] bytes) (last_told (open_part [] bytes)))))

-- the rest is one line at most
pub upto_rest : (part : List ℕ) → upto_quit (asked_by_all (last_told part)) ≡ asked_by_all (last_told part)
upto_rest [] = refl
upto_rest (b ∷ part) =
    let one = asked_by_all (last_told (b ∷ part)) in
    let is : one ≡ asked_by (tells (without_cr (b ∷ part))) = append-nil (asked_by (tells (without_cr (b ∷ part)))) in
    ap upto_quit is ∙ (upto_asked (tells (without_cr (b ∷ part))) ∙ sym is)

pub quit_one : (b : Bool) → (b || false) ≡ b
quit_one true = refl
quit_one false = refl

-- what an event tells is one line at most
pub upto_told : (event : Option Event) (line : List ℕ) → upto_quit (asked_by_all (told event line)) ≡ asked_by_all (told event line)
upto_told None line = refl
upto_told (Some events.Line) line = ap upto_quit (append-nil (asked_by (Read line))) ∙ (upto_asked (Read line) ∙ sym (append-nil (asked_by (Read line))))
upto_told (Some events.TooLong) line = refl

-- Lines behind others that were told, of which none was the last.
module _ (front back all : List Told) (is : all ≡ front ++ back) (going : has_quit (asked_by_all front) ≡ false) where
  both : asked_by_all all ≡ asked_by_all front ++ asked_by_all back
  both = ap asked_by_all is ∙ asked-append front back

  more_upto : upto_quit (asked_by_all all) ≡ asked_by_all front ++ upto_quit (asked_by_all back)
  more_upto = ap upto_quit both ∙ upto-append (asked_by_all front) (asked_by_all back) going

  pub more_quit : has_quit (asked_by_all all) ≡ has_quit (asked_by_all back)
  more_quit = ap has_quit both ∙ (quit-append (asked_by_all front) (asked_by_all back) ∙ ap (λ b. b || has_quit (asked_by_all back)) going)

  pub more_asked : (xs ys : List Asked) → xs ≡ asked_by_all front → ys ≡ upto_quit (asked_by_all back) → xs ++ ys ≡ upto_quit (asked_by_all all)
  more_asked xs ys first second = ap (λ w. w ++ ys) first ∙ (ap (λ w. asked_by_all front ++ w) second ∙ sym more_upto)

  pub more_begun : (xs ys : List Asked) → xs ≡ asked_by_all front → IsPrefix ys (upto_quit (asked_by_all back)) → IsPrefix (xs ++ ys) (upto_quit (asked_by_all all))
  more_begun xs ys first second = subst (λ w. IsPrefix (w ++ ys) (upto_quit (asked_by_all all))) (sym first) (subst (IsPrefix (asked_by_all front ++ ys)) (sym more_upto) (begins_behind (asked_by_all front) ys _ second))

-- All lines, by those in front that were told.
module _ (front back all : List Told) (is : all ≡ front ++ back) where
  parts : asked_by_all all ≡ asked_by_all front ++ asked_by_all back
  parts = ap asked_by_all is ∙ asked-append front back

  pub longer_asked : has_quit (asked_by_all front) ≡ true → upto_quit (asked_by_all front) ≡ upto_quit (asked_by_all all)
  longer_asked quit = sym (ap upto_quit parts ∙ upto-append_quit (asked_by_all front) (asked_by_all back) quit)

  pub longer_quit : has_quit (asked_by_all front) ≡ true → has_quit (asked_by_all all) ≡ true
  longer_quit quit = ap has_quit parts ∙ (quit-append (asked_by_all front) (asked_by_all back) ∙ ap (λ b. b || has_quit (asked_by_all back)) quit)

  pub longer_begun : (some : List Asked) → IsPrefix some (upto_quit (asked_by_all front)) → IsPrefix some (upto_quit (asked_by_all all))
  longer_begun some begins = begins_then some _ _ begins (subst (λ w. IsPrefix (upto_quit (asked_by_all front)) (upto_quit w)) (sym parts) (upto_begins (asked_by_all front) (asked_by_all back)))
