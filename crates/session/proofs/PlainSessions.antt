-- A session of one map alone, from the empty map on.
use Rattle.std.proofs.Common.{◌≡◌, ℕ, List, [], map, Bool, true, false, refl, sym, ap, ◌∙◌, subst, inl, Option}
use Rattle.std.proofs.lemmas.List.{append-nil, map-append}
use Rattle.std.specs.List.{list_any}
use mathlib.Core.List.{IsPrefix}
use Rattle.map_model.specs.History.{Entry, IsLegal}
use Rattle.map_model.specs.declared.refusal.Refusal.{Refusal}
use Rattle.outside.specs.Reading.{Told}
use Rattle.outside.specs.Writing.{Wrote}
use Rattle.line_reader.specs.Cut.{open_part}
use Rattle.line_reader.specs.Told.{told_lines, last_told}
use Rattle.line_protocol.specs.Requests.{request}
use Rattle.line_protocol.specs.Served.{served, quits}
use Rattle.session.specs.Asked.{asked_by_all, has_quit, upto_quit}
use Rattle.session.specs.Plain.{plain_from, plain_text, plain_output, HasNoRefusal, BeginsPlain, PlainBy, PlainSession}
use Rattle.session.specs.Sessions.{TakenBy, ServedBy, SaidBy, Session}
use Rattle.session.specs.Transcripts.{IsTranscript}
use Rattle.session.specs.declared.session.SessionEnd.{SessionEnd}
use Rattle.session.specs.declared.session.SessionEnd.TheVariants as ends
use Rattle.session.proofs.AskedLists.{asked_open, asked_ended, quit_lines, quit-upto, upto-append_quit, upto_begins}
use Rattle.session.proofs.Gaining.{begins_then}
use Rattle.session.proofs.PlainTexts.{plain_begins, plain_whole, plain_prefix}

-- where a line quits, no more is served at the end of input
pub served_quit : (bytes : List ℕ) (ended : Bool) → list_any quits (served bytes ended) ≡ true → map request (served bytes ended) ≡ map request (served bytes true)
served_quit bytes true quit = refl
served_quit bytes false quit =
    let first = asked_by_all (told_lines [] bytes) in
    let rest = asked_by_all (last_told (open_part [] bytes)) in
    let has : has_quit first ≡ true = sym (quit-upto first) ∙ (ap has_quit (sym (asked_open bytes)) ∙ (sym (quit_lines (served bytes false)) ∙ quit)) in
    asked_open bytes ∙ (sym (upto-append_quit first rest has) ∙ sym (asked_ended bytes))

-- and else what is served begins what is served then
pub served_begins : (bytes : List ℕ) (ended : Bool) → IsPrefix (map request (served bytes ended)) (map request (served bytes true))
served_begins bytes true = ([], append-nil (map request (served bytes true)))
served_begins bytes false =
    let first = asked_by_all (told_lines [] bytes) in
    let rest = asked_by_all (last_told (open_part [] bytes)) in
    subst (λ w. IsPrefix w (map request (served bytes true))) (sym (asked_open bytes)) (subst (IsPrefix (upto_quit first)) (sym (asked_ended bytes)) (upto_begins first rest))

-- A transcript from the empty map on tells the plain text, where it tells no refusal.
module _ (limit : Option ℕ) (lane : ℕ) (fits : List Entry → Type 0) (lines : List (List ℕ)) (entries : List Entry) (output : List ℕ) (transcript : IsTranscript limit lane true fits [] lines entries output) (legal : IsLegal entries) where
  pub transcript_plain : HasNoRefusal output → output ≡ plain_text lines
  transcript_plain none =
      sym transcript.of_output ∙ (plain_whole limit lane fits transcript.pieces [] [] [] tt transcript.each (subst IsLegal (sym transcript.of_entries) legal) (inl refl) (subst HasNoRefusal (sym transcript.of_output) none) ∙ ap (plain_from []) transcript.of_lines)

  pub transcript_begins : (written : List ℕ) → IsPrefix written output → HasNoRefusal written → BeginsPlain written (plain_text lines)
  transcript_begins written begins none =
      subst (λ w. BeginsPlain written (plain_from [] w)) transcript.of_lines (plain_begins limit lane fits transcript.pieces [] [] [] written tt transcript.each (subst IsLegal (sym transcript.of_entries) legal) (inl refl) none (subst (IsPrefix written) (sym transcript.of_output) begins))

-- what was written, by the end
abbrev pub written_by : (end : SessionEnd) (w v : Option (List ℕ)) (output : List ℕ) → SaidBy end w v output → List ℕ
written_by ends.Quit w v output said = output
written_by ends.EndOfInput w v output said = output
written_by ends.ReadFault w v output said = output
written_by ends.WriteFault w v output said = said.0
written_by ends.NoMemory w v output said = said.0
written_by (ends.Spent taken) w v output said = output

pub wrote_by : (end : SessionEnd) (w v : Option (List ℕ)) (output : List ℕ) (said : SaidBy end w v output) → Wrote w v (written_by end w v output said)
wrote_by ends.Quit w v output said = said
wrote_by ends.EndOfInput w v output said = said
wrote_by ends.ReadFault w v output said = said
wrote_by ends.WriteFault w v output said = said.2
wrote_by ends.NoMemory w v output said = said.2
wrote_by (ends.Spent taken) w v output said = said

module _ (bytes : List ℕ) (ended : Bool) (lines : List (List ℕ)) (output : List ℕ) (whole : HasNoRefusal output → output ≡ plain_text lines) (cut : (written : List ℕ) → IsPrefix written output → HasNoRefusal written → BeginsPlain written (plain_text lines)) where
  -- some first lines
  some_plain : (written : List ℕ) → IsPrefix lines (served bytes ended) → IsPrefix written output → HasNoRefusal written → BeginsPlain written (plain_output bytes)
  some_plain written some begins none =
      let first : IsPrefix (map request lines) (map request (served bytes ended)) = (map request some.0, sym (map-append request lines some.0) ∙ ap (map request) some.1) in
      plain_prefix [] (map request lines) (map request (served bytes true)) written (begins_then _ _ _ first (served_begins bytes ended)) (cut written begins none)

  pub plain_by : (end : SessionEnd) (budget : ℕ) (w v : Option (List ℕ)) → TakenBy end budget bytes ended → ServedBy end (served bytes ended) lines → (said : SaidBy end w v output)
      → HasNoRefusal (written_by end w v output said) → PlainBy end bytes (written_by end w v output said)
  plain_by ends.Quit budget w v taken of_all said none =
      whole none ∙ ap (plain_from []) (ap (map request) of_all.0 ∙ served_quit bytes ended (subst (λ ls. list_any quits ls ≡ true) of_all.0 of_all.1))
  plain_by ends.EndOfInput budget w v taken of_all said none = whole none ∙ ap plain_text (of_all.0 ∙ ap (served bytes) taken.1)
  plain_by ends.ReadFault budget w v taken of_all said none = whole none ∙ ap plain_text (of_all.0 ∙ ap (served bytes) taken.1)
  plain_by ends.WriteFault budget w v taken of_all said none = some_plain said.0 of_all said.1 none
  plain_by ends.NoMemory budget w v taken of_all said none = some_plain said.0 of_all said.1 none
  plain_by (ends.Spent count) budget w v taken of_all said none = whole none ∙ ap plain_text (of_all.0 ∙ ap (served bytes) taken.2)

-- A session over a sole store that stands for the empty history.
unfoldable pub plain_session : (end : SessionEnd) (budget : ℕ) (t u : Option Told) (w v : Option (List ℕ)) (limit : Option ℕ) (lane : ℕ) (fits : List Entry → Type 0) (i j : ℕ) (m n : Option Refusal) (a b : List Entry → Type 0)
    → a [] → Session end budget t u w v limit lane true fits i j m n a b → PlainSession end budget t u w v
plain_session end budget t u w v limit lane fits i j m n a b new s =
    let found = s.replies [] new in
    let r = found.2.replies in
    let legal : IsLegal r.entries = subst IsLegal (r.grows.alone refl) r.grows.legal in record {
      bytes = s.bytes;
      ended = s.ended;
      output = written_by end w v r.output r.said;
      took = s.took;
      answered = s.answered;
      taken = s.taken;
      wrote = wrote_by end w v r.output r.said;
      plain = plain_by s.bytes s.ended r.lines r.output (transcript_plain limit lane fits r.lines r.entries r.output r.transcript legal) (transcript_begins limit lane fits r.lines r.entries r.output r.transcript legal) end budget w v s.taken r.of_all r.said;
    }
