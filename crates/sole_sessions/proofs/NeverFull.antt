-- Where there is room for all that lines put, no line tells of want of room, whatever else was refused.
use Rattle.std.proofs.Common.{◌≡◌, ℕ, List, [], ◌∷◌, ◌++◌, Bool, true, refl, sym, ◌∙◌, subst, Option}
use Rattle.std.specs.Prelude.{codes}
use Rattle.std.proofs.lemmas.List.{append-nil}
use mathlib.Core.List.{IsPrefix}
use Rattle.line_protocol.specs.Served.{served}
use Rattle.map_model.specs.Calls as calls
use Rattle.map_model.specs.History.{Entry, after, entry_of, map_from, IsLegalFrom, IsLegal}
use Rattle.map_model.proofs.Histories.{legal-parts, map_from-append}
use Rattle.session.specs.Plain.{HasLine}
use Rattle.session.specs.Sessions.{ServedBy, SaidBy}
use Rattle.session.specs.Transcripts.{Exchange, AreServed, IsTranscript, asked_of, entries_of, text_of}
use Rattle.session.specs.declared.session.SessionEnd.{SessionEnd}
use Rattle.session.specs.declared.session.SessionEnd.TheVariants as ends
use Rattle.session.proofs.PlainSessions.{written_by}
use Rattle.session.proofs.PlainTexts.{LacksRoom}
use Rattle.sole_sessions.specs.PlainHistory.{plain_entries, history_from}
use Rattle.sole_sessions.specs.Rooms.{IsNoLarger, HasRoomFor}
use Rattle.sole_sessions.proofs.FreeLines.{IsFree, free_none, free-append, free_piece, free_not_full, line_begins}
use Rattle.sole_sessions.proofs.KeepingUp.{KeepsUp, keeps_none, keeps_put, keeps_piece, keeps_larger}
use Rattle.sole_sessions.proofs.Larger.{room_prefix}

-- where there is room, none is lacking
pub no_lack : (lane : ℕ) (fits : List Entry → Type 0) (seen h : List Entry) (x : Exchange) (pieces : List Exchange) → KeepsUp seen h → ((g : List Entry) → IsNoLarger g (history_from h (asked_of (x ∷ pieces))) → fits g) → LacksRoom lane fits seen x.asked → ⊥
no_lack lane fits seen h x pieces up room lacks =
    let key = lacks.0 in
    let value = lacks.1 in
    let call = calls.Put key value in
    let e = entry_of lane seen call (calls.answer_of (after seen) call) in
    let more = keeps_put seen h up e key value refl refl in
    lacks.3 refl (room (seen ++ e ∷ []) (keeps_larger (seen ++ e ∷ []) (h ++ plain_entries h x.asked) (asked_of pieces) (subst (λ asked. KeepsUp (seen ++ e ∷ []) (h ++ plain_entries h asked)) (sym lacks.2) more)))

pieces_free : (limit : Option ℕ) (lane : ℕ) (fits : List Entry → Type 0) (pieces : List Exchange) (seen h : List Entry) → KeepsUp seen h → AreServed limit lane true fits seen pieces → IsLegalFrom (after seen) (entries_of pieces)
    → ((g : List Entry) → IsNoLarger g (history_from h (asked_of pieces)) → fits g) → IsFree (text_of pieces)
pieces_free limit lane fits [] seen h up each legal room = free_none
pieces_free limit lane fits (x ∷ pieces) seen h up each legal room =
    let parts = legal-parts (after seen) x.entries (entries_of pieces) legal in
    let behind : after (seen ++ x.entries) ≡ map_from (after seen) x.entries = map_from-append [] seen x.entries in
    free-append x.text (text_of pieces)
    (free_piece limit lane true fits seen x x.asked (λ key value asks is full. no_lack lane fits seen h x pieces up room (key, value, asks, is.room full)) each.0)
    (pieces_free limit lane fits pieces (seen ++ x.entries) (h ++ plain_entries h x.asked) (keeps_piece limit lane true fits seen h x up parts.0 x.asked each.0) each.1 (subst (λ k. IsLegalFrom k (entries_of pieces)) (sym behind) parts.1) room)

-- a transcript of lines for which there is room
pub transcript_never_full : (limit : Option ℕ) (lane : ℕ) (fits : List Entry → Type 0) (lines : List (List ℕ)) (entries : List Entry) (output : List ℕ) → IsTranscript limit lane true fits [] lines entries output → IsLegal entries → HasRoomFor fits lines → HasLine (codes "FULL") output → ⊥
transcript_never_full limit lane fits lines entries output t legal room =
    let free : IsFree (text_of t.pieces) = pieces_free limit lane fits t.pieces [] [] keeps_none t.each (subst IsLegal (sym t.of_entries) legal) (subst (λ w. (g : List Entry) → IsNoLarger g (history_from [] w) → fits g) (sym t.of_lines) room) in
    free_not_full output (subst IsFree t.of_output free)

-- At each end some first lines were served, and of their output some first bytes were written.
served_first : (end : SessionEnd) (all lines : List (List ℕ)) → ServedBy end all lines → IsPrefix lines all
served_first ends.Quit all lines of_all = ([], append-nil lines ∙ of_all.0)
served_first ends.EndOfInput all lines of_all = ([], append-nil lines ∙ of_all.0)
served_first ends.ReadFault all lines of_all = ([], append-nil lines ∙ of_all.0)
served_first ends.WriteFault all lines of_all = of_all
served_first ends.NoMemory all lines of_all = of_all
served_first (ends.Spent taken) all lines of_all = ([], append-nil lines ∙ of_all.0)

written_first : (end : SessionEnd) (w v : Option (List ℕ)) (output : List ℕ) (said : SaidBy end w v output) → IsPrefix (written_by end w v output said) output
written_first ends.Quit w v output said = ([], append-nil output)
written_first ends.EndOfInput w v output said = ([], append-nil output)
written_first ends.ReadFault w v output said = ([], append-nil output)
written_first ends.WriteFault w v output said = said.1
written_first ends.NoMemory w v output said = said.1
written_first (ends.Spent taken) w v output said = ([], append-nil output)

-- what a session wrote
pub never_full : (limit : Option ℕ) (lane : ℕ) (fits : List Entry → Type 0) (bytes : List ℕ) (ended : Bool) (lines : List (List ℕ)) (entries : List Entry) (output : List ℕ) → IsTranscript limit lane true fits [] lines entries output → IsLegal entries
    → (end : SessionEnd) (w v : Option (List ℕ)) → ServedBy end (served bytes ended) lines → (said : SaidBy end w v output) → HasRoomFor fits (served bytes ended) → HasLine (codes "FULL") (written_by end w v output said) → ⊥
never_full limit lane fits bytes ended lines entries output t legal end w v of_all said room line =
    transcript_never_full limit lane fits lines entries output t legal (room_prefix fits lines (served bytes ended) (served_first end (served bytes ended) lines of_all) room)
    (line_begins (codes "FULL") (written_by end w v output said) output (written_first end w v output said) line)
