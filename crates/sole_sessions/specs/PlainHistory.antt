-- The calls that one ordered map answers to lines.
use Rattle.std.specs.Prelude.{List, [], ◌∷◌, ◌++◌, ℕ, map, Some, None, Ok, Err}
use Rattle.line_protocol.specs.Requests.{Asked, request}
use Rattle.line_protocol.specs.declared.request.Request.TheVariants as asks
use Rattle.map_model.specs.Calls as calls
use Rattle.map_model.specs.History.{Entry, after, entry_of}

-- the call's entry behind a history, with what the map answers there
abbrev pub answered_entry : List Entry → calls.Call → Entry
answered_entry h call = entry_of 0 h call (calls.answer_of (after h) call)

-- the entry of a put, a get or a del; a scan puts nothing, so its parts are left out
abbrev pub plain_entries : List Entry → Asked → List Entry
plain_entries h (Ok None) = []
plain_entries h (Ok (Some (asks.Put key value))) = answered_entry h (calls.Put key value) ∷ []
plain_entries h (Ok (Some (asks.Get key))) = answered_entry h (calls.Get key) ∷ []
plain_entries h (Ok (Some (asks.Del key))) = answered_entry h (calls.Del key) ∷ []
plain_entries h (Ok (Some (asks.Scan from to most))) = []
plain_entries h (Ok (Some asks.Quit)) = []
plain_entries h (Err fault) = []

-- the history behind all that is asked, from a history on
abbrev pub history_from : List Entry → List Asked → List Entry
history_from h [] = h
history_from h (asked ∷ all) = history_from (h ++ plain_entries h asked) all

-- the puts, gets and dels of these lines, with what one ordered map answers to them, from empty on
abbrev pub plain_history : List (List ℕ) → List Entry
plain_history lines = history_from [] (map request lines)
