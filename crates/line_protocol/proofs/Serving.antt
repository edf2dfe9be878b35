-- Laws of what is served.
use Rattle.std.proofs.Common.{◌≡◌, ℕ, ◌<◌, ◌≤◌, ◌↔◌, ◌++◌, Bool, true, cond, eqb, ltb, List, [], ◌∷◌, filter, length, Option, None, Some, Result, Ok, Err, refl, sym, ap, ◌∙◌, subst, codes, arith}
use Rattle.std.specs.List.{list_any}
use Rattle.std.specs.Str.{bytes_eq}
use Rattle.std.proofs.lemmas.Bool.{or_parts, cond-true, cond-false, cond_both, eqb-true, ne_eqb, lt-ltb, le-ltb}
use Rattle.std.proofs.lemmas.List.{append_assoc}
use Rattle.std.proofs.lemmas.List.Elements.{filter-append}
use Rattle.line_reader.specs.Cut.{ended_lines, open_part, last_line}
use Rattle.line_reader.proofs.Cutting.{lines_are, ended_lines-append, open_part-append}
use Rattle.key_bytes.specs.declared.bound.Bound.TheVariants.{Low, High}
use Rattle.line_reader.specs.declared.limits.TheConstants.{LONGEST_LINE}
use Rattle.line_protocol.specs.declared.fault.Fault.TheVariants.{Line}
use Rattle.line_protocol.specs.declared.fault.RequestFault.{RequestFault}
use Rattle.line_protocol.specs.declared.fault.RequestFault.TheVariants.{Fault}
use Rattle.line_protocol.specs.declared.request.Request.TheVariants.{Put, Get, Del, Scan}
use Rattle.line_protocol.specs.Words.{words_of, one, two, three}
use Rattle.line_protocol.specs.Parts.{Answers, key_of, value_of, end_of, limit_of}
use Rattle.line_protocol.specs.Requests.{Asked, and_then, put_of, get_of, del_of, scan_of, quit, asked, request}
use Rattle.line_protocol.specs.Served.{has_bytes, quits, until_quit, served, HasNoQuit}

-- behind lines that don't quit it goes on
pub until_quit-append : (xs ys : List (List ℕ)) → HasNoQuit xs → until_quit (xs ++ ys) ≡ xs ++ until_quit ys
until_quit-append [] ys none = refl
until_quit-append (line ∷ xs) ys none =
    let parts = or_parts (quits line) (list_any quits xs) none in
    ap (λ ls. line ∷ ls) (cond-false (quits line) [] (until_quit (xs ++ ys)) parts.0 ∙ until_quit-append xs ys parts.1)

-- lines that don't quit are all served
pub until_quit_none : (xs : List (List ℕ)) → HasNoQuit xs → until_quit xs ≡ xs
until_quit_none [] none = refl
until_quit_none (line ∷ xs) none =
    let parts = or_parts (quits line) (list_any quits xs) none in
    ap (λ ls. line ∷ ls) (cond-false (quits line) [] (until_quit xs) parts.0 ∙ until_quit_none xs parts.1)

-- behind a line that quits nothing counts
pub until_quit_ends : (xs : List (List ℕ)) (line : List ℕ) (ys : List (List ℕ)) → HasNoQuit xs → quits line ≡ true → until_quit (xs ++ line ∷ ys) ≡ xs ++ line ∷ []
until_quit_ends xs line ys none quit = until_quit-append xs (line ∷ ys) none ∙ ap (λ ls. xs ++ line ∷ ls) (cond-true (quits line) [] (until_quit ys) quit)

-- the lines of these bytes behind an open part
abbrev pub later_lines : List ℕ → List ℕ → Bool → List (List ℕ)
later_lines part bytes ended = ended_lines part bytes ++ cond ended (last_line (open_part part bytes)) []

-- what is served, told byte by byte
pub served_is : (bytes : List ℕ) (ended : Bool) → served bytes ended ≡ until_quit (filter has_bytes (later_lines [] bytes ended))
served_is bytes ended = ap (λ ls. until_quit (filter has_bytes ls)) (lines_are bytes ended)

-- what is served of two pieces: the lines of the first, if none of them quits, and those of the second behind its open part
pub served-append : (xs ys : List ℕ) (ended : Bool) → HasNoQuit (filter has_bytes (ended_lines [] xs)) → served (xs ++ ys) ended ≡ filter has_bytes (ended_lines [] xs) ++ until_quit (filter has_bytes (later_lines (open_part [] xs) ys ended))
served-append xs ys ended none =
    let first = ended_lines [] xs in
    let part = open_part [] xs in
    let lines : later_lines [] (xs ++ ys) ended ≡ first ++ later_lines part ys ended =
    ap (λ ls. ls ++ cond ended (last_line (open_part [] (xs ++ ys))) []) (ended_lines-append [] xs ys)
    ∙ ap (λ p. (first ++ ended_lines part ys) ++ cond ended (last_line p) []) (open_part-append [] xs ys)
    ∙ append_assoc first (ended_lines part ys) (cond ended (last_line (open_part part ys)) []) in
    served_is (xs ++ ys) ended
    ∙ ap (λ ls. until_quit (filter has_bytes ls)) lines
    ∙ ap until_quit (filter-append has_bytes first (later_lines part ys ended))
    ∙ until_quit-append (filter has_bytes first) (filter has_bytes (later_lines part ys ended)) none

-- a line that asks for something or is at fault
abbrev AsksSome : Asked → Type 0
AsksSome (Ok None) = ⊥
AsksSome (Ok (Some request)) = Unit {0}
AsksSome (Err fault) = Unit {0}

then_some : {A : Type 0} (first : Result A RequestFault) (next : A → Asked) → ((x : A) → AsksSome (next x)) → AsksSome (and_then first next)
then_some (Ok x) next each = each x
then_some (Err fault) next each = tt

put_some : (words : Option (List ℕ × List ℕ)) → AsksSome (put_of words)
put_some None = tt
put_some (Some words) = then_some (key_of words.0) (λ key. and_then (value_of words.1) (λ value. Ok (Some (Put key value)))) (λ key. then_some (value_of words.1) (λ value. Ok (Some (Put key value))) (λ value. tt))

get_some : (word : Option (List ℕ)) → AsksSome (get_of word)
get_some None = tt
get_some (Some word) = then_some (key_of word) (λ key. Ok (Some (Get key))) (λ key. tt)

del_some : (word : Option (List ℕ)) → AsksSome (del_of word)
del_some None = tt
del_some (Some word) = then_some (key_of word) (λ key. Ok (Some (Del key))) (λ key. tt)

scan_some : (words : Option (List ℕ × List ℕ × List ℕ)) → AsksSome (scan_of words)
scan_some None = tt
scan_some (Some words) =
    then_some (end_of Low words.0) (λ from. and_then (end_of High words.1) (λ upto. and_then (limit_of words.2) (λ limit. Ok (Some (Scan from upto limit)))))
    (λ from. then_some (end_of High words.1) (λ upto. and_then (limit_of words.2) (λ limit. Ok (Some (Scan from upto limit))))
    (λ upto. then_some (limit_of words.2) (λ limit. Ok (Some (Scan from upto limit))) (λ limit. tt)))

quit_some : (words : List (List ℕ)) → AsksSome (quit words)
quit_some [] = tt
quit_some (word ∷ words) = tt

asked_some : (words : List (List ℕ)) → AsksSome (asked words)
asked_some [] = tt
asked_some (command ∷ words) =
    cond_both (bytes_eq command (codes "PUT")) _ _ AsksSome (λ _. put_some (two words))
    (λ _. cond_both (bytes_eq command (codes "GET")) _ _ AsksSome (λ _. get_some (one words))
    (λ _. cond_both (bytes_eq command (codes "DEL")) _ _ AsksSome (λ _. del_some (one words))
    (λ _. cond_both (bytes_eq command (codes "SCAN")) _ _ AsksSome (λ _. scan_some (three words))
    (λ _. cond_both (bytes_eq command (codes "QUIT")) _ _ AsksSome (λ _. quit_some words) (λ _. tt)))))

-- words never ask for nothing
pub answered_some : (result : Asked) (words : List (List ℕ)) → Answers result (asked words) → result ≡ Ok None → ⊥
answered_some result words answers e =
    let is : asked words ≡ Ok None = subst (λ r. Answers r (asked words)) e answers in
    subst AsksSome is (asked_some words)

-- only the empty line asks for nothing
abbrev OnlyEmpty : List ℕ → Asked → Type 0
OnlyEmpty line answer = answer ≡ Ok None → line ≡ []

some_only : (line : List ℕ) (answer : Asked) → AsksSome answer → OnlyEmpty line answer
some_only line (Ok None) some = absurd some
some_only line (Ok (Some request)) some = λ e. let no : Ok (Some request) ≡ Ok None = e in cc
some_only line (Err fault) some = λ e. let no : Err fault ≡ Ok None = e in cc

empty_line : (line : List ℕ) → length line ≡ 0 → line ≡ []
empty_line [] none = refl
empty_line (b ∷ line) none = absurd (omega (arith, none))

pub request_none : (line : List ℕ) → request line ≡ Ok None → line ≡ []
request_none line =
    cond_both (eqb (length line) 0) _ _ (OnlyEmpty line) (λ none e. empty_line line (eqb-true (length line) 0 none))
    (λ _. cond_both (ltb LONGEST_LINE (length line)) _ _ (OnlyEmpty line) (λ _. some_only line (Err (Fault Line)) tt) (λ _. some_only line (asked (words_of line)) (asked_some (words_of line))))

-- any other line asks for what its words say
request_some : (line : List ℕ) → 0 < length line → length line ≤ LONGEST_LINE → request line ≡ asked (words_of line)
request_some line some short =
    cond-false (eqb (length line) 0) (Ok None) _ (ne_eqb (length line) 0 (λ e. absurd (omega (arith, e, some))))
    ∙ cond-false (ltb LONGEST_LINE (length line)) (Err (Fault Line)) (asked (words_of line)) (le-ltb LONGEST_LINE (length line) short)

pub answers_line : (line : List ℕ) (words : List (List ℕ)) (result : Asked) → 0 < length line → length line ≤ LONGEST_LINE → words_of line ≡ words → Answers result (asked words) → Answers result (request line)
answers_line line words result some short cut answers = subst (Answers result) (sym (request_some line some short ∙ ap asked cut)) answers

pub never_nothing : (line : List ℕ) (words : List (List ℕ)) (result : Asked) → 0 < length line → Answers result (asked words) → (result ≡ Ok None) ↔ (line ≡ [])
never_nothing line words result some answers =
    (λ e. absurd (answered_some result words answers e), λ e. absurd (omega (arith, some, ap length e)))

-- a line that is too long is at fault for that
pub request_long : (line : List ℕ) → LONGEST_LINE < length line → request line ≡ Err (Fault Line)
request_long line long =
    cond-false (eqb (length line) 0) (Ok None) _ (ne_eqb (length line) 0 (λ e. absurd (omega (arith, e, long))))
    ∙ cond-true (ltb LONGEST_LINE (length line)) (Err (Fault Line)) (asked (words_of line)) (lt-ltb LONGEST_LINE (length line) long)
