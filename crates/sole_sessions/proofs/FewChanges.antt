-- Lines change no more than they have bytes.
use Rattle.std.proofs.Common.{◌≡◌, ◌≤◌, ◌+◌, ℕ, suc, List, [], ◌∷◌, ◌++◌, length, length-append, map, filter, Bool, true, false, cond, if◌then◌else◌, ap, ◌∙◌, Some, None, Ok, Err, arith}
use Rattle.history_sizes.specs.Sizes.{is_change, changes}
use Rattle.history_sizes.proofs.Rising.{changes-push, changes-append}
use Rattle.line_protocol.specs.Requests.{Asked, request}
use Rattle.line_protocol.specs.Served.{has_bytes, quits, until_quit, served}
use Rattle.line_protocol.specs.declared.request.Request.TheVariants as asks
use Rattle.line_reader.specs.Cut.{is_lf, without_cr, lines, ended_lines, open_part, last_line}
use Rattle.line_reader.proofs.Cutting.{lines_are}
use Rattle.map_model.specs.Calls as calls
use Rattle.map_model.specs.History.{Entry, after}
use Rattle.sole_sessions.specs.PlainHistory.{answered_entry, plain_entries, history_from, plain_history}

change_once : (reply : calls.Reply) → is_change reply ≤ 1
change_once (calls.Value value) = omega arith
change_once calls.Absent = omega arith
change_once calls.New = omega arith
change_once calls.Set = omega arith
change_once calls.Gone = omega arith
change_once (calls.Pairs pairs) = omega arith

one_entry : (h : List Entry) (call : calls.Call) → changes (h ++ answered_entry h call ∷ []) ≤ changes h + 1
one_entry h call = omega (arith, changes-push h (answered_entry h call), change_once (calls.answer_of (after h) call))

no_entry : (h : List Entry) → changes (h ++ []) ≤ changes h + 1
no_entry h = let e = changes-append h [] in omega arith

asked_once : (h : List Entry) (asked : Asked) → changes (h ++ plain_entries h asked) ≤ changes h + 1
asked_once h (Ok None) = no_entry h
asked_once h (Ok (Some (asks.Put key value))) = one_entry h (calls.Put key value)
asked_once h (Ok (Some (asks.Get key))) = one_entry h (calls.Get key)
asked_once h (Ok (Some (asks.Del key))) = one_entry h (calls.Del key)
asked_once h (Ok (Some (asks.Scan from to most))) = no_entry h
asked_once h (Ok (Some asks.Quit)) = no_entry h
asked_once h (Err fault) = no_entry h

changes_from : (h : List Entry) (all : List Asked) → changes (history_from h all) ≤ changes h + length all
changes_from h [] = omega arith
changes_from h (asked ∷ all) = let here = asked_once h asked in let rest = changes_from (h ++ plain_entries h asked) all in omega arith

length_asked : (ls : List (List ℕ)) → length (map request ls) ≡ length ls
length_asked [] = omega arith
length_asked (line ∷ ls) = let rest = length_asked ls in omega arith

-- one change for each line, at most
pub changes_of_lines : (ls : List (List ℕ)) → changes (plain_history ls) ≤ length ls
changes_of_lines ls = let all = changes_from [] (map request ls) in let same = length_asked ls in omega arith

-- How many lines are served of some bytes.
length_until : (ls : List (List ℕ)) → length (until_quit ls) ≤ length ls
length_until [] = omega arith
length_until (line ∷ ls) = let rest = length_until ls in elim (quits line) as (λ b. length (line ∷ (if b then [] else until_quit ls)) ≤ suc (length ls)) [ true ↦ omega arith | false ↦ omega arith ]

length_some : (ls : List (List ℕ)) → length (filter has_bytes ls) ≤ length ls
length_some [] = omega arith
length_some (line ∷ ls) = let rest = length_some ls in elim (has_bytes line) as (λ b. length (cond b (line ∷ filter has_bytes ls) (filter has_bytes ls)) ≤ suc (length ls)) [ true ↦ omega arith | false ↦ omega arith ]

length_ended : (part bytes : List ℕ) → length (ended_lines part bytes) ≤ length bytes
length_ended part [] = omega arith
length_ended part (b ∷ bytes) =
    let first = length_ended [] bytes in
    let more = length_ended (part ++ b ∷ []) bytes in
    elim (is_lf b) as (λ q. length (if q then without_cr part ∷ ended_lines [] bytes else ended_lines (part ++ b ∷ []) bytes) ≤ suc (length bytes)) [ true ↦ omega arith | false ↦ omega arith ]

length_last : (ended : Bool) (part : List ℕ) → length (cond ended (last_line part) []) ≤ 1
length_last false part = omega arith
length_last true [] = omega arith
length_last true (b ∷ part) = omega arith

length_lines : (bytes : List ℕ) (ended : Bool) → length (lines bytes ended) ≤ length bytes + 1
length_lines bytes ended =
    let last = cond ended (last_line (open_part [] bytes)) [] in
    let all : length (lines bytes ended) ≡ length (ended_lines [] bytes) + length last = ap length (lines_are bytes ended) ∙ length-append (ended_lines [] bytes) last in
    let first = length_ended [] bytes in
    let rest = length_last ended (open_part [] bytes) in omega arith

pub few_changes : (bytes : List ℕ) (ended : Bool) → changes (plain_history (served bytes ended)) ≤ length bytes + 1
few_changes bytes ended =
    let all = lines bytes ended in
    omega (arith, changes_of_lines (served bytes ended), length_until (filter has_bytes all), length_some all, length_lines bytes ended)
