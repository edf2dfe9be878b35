-- A session with room for all that its lines put answers as one ordered map, up to a line that tells of want of memory.
use Rattle.std.proofs.Common.{◌≡◌, ◌⊎◌, ℕ, List, [], ◌∷◌, ◌++◌, map, Bool, true, refl, sym, ap, ◌∙◌, subst, inl, inr, Option, append_assoc}
use Rattle.std.specs.Prelude.{codes}
use Rattle.std.specs.List.{list_any}
use Rattle.std.proofs.lemmas.List.{append-nil, map-append}
use mathlib.Core.List.{IsPrefix}
use Rattle.line_protocol.specs.Requests.{request}
use Rattle.line_protocol.specs.Served.{served, quits}
use Rattle.map_model.specs.History.{Entry, after, map_from, IsLegalFrom, IsLegal}
use Rattle.map_model.specs.declared.refusal.Refusal.{Refusal}
use Rattle.map_model.specs.declared.refusal.Refusal.TheVariants as refusals
use Rattle.map_model.specs.declared.refusal.Again.{Again as Cause}
use Rattle.map_model.proofs.Histories.{legal-parts, ascending_history, map_from-append}
use Rattle.outside.specs.Reading.{Told}
use Rattle.session.specs.Plain.{plain_answer, plain_map, plain_from, plain_text, plain_output, IsLineStart, HasLine, BeginsPlain, PlainBy}
use Rattle.session.specs.Replies.{refusal_line}
use Rattle.session.specs.Sessions.{TakenBy, ServedBy, SaidBy, Session}
use Rattle.session.specs.Transcripts.{Exchange, IsFull, AreServed, IsTranscript, asked_of, entries_of, text_of}
use Rattle.session.specs.declared.session.SessionEnd.{SessionEnd}
use Rattle.session.specs.declared.session.SessionEnd.TheVariants as ends
use Rattle.session.proofs.Gaining.{begins_behind, begins_more, begins_then}
use Rattle.session.proofs.PlainSessions.{served_quit, served_begins, written_by, plain_session}
use Rattle.session.proofs.PlainTexts.{piece_cases, start_behind, prefix_cases, lf_cases, plain_prefix}
use Rattle.sole_sessions.specs.PlainHistory.{plain_entries, history_from}
use Rattle.sole_sessions.specs.Rooms.{IsNoLarger, HasRoomFor}
use Rattle.sole_sessions.specs.SoleSessions.{SoleSession}
use Rattle.sole_sessions.proofs.Larger.{room_prefix}
use Rattle.sole_sessions.proofs.KeepingUp.{KeepsUp, keeps_none, keeps_piece}
use Rattle.sole_sessions.proofs.NeverFull.{no_lack, never_full}

-- The text is a beginning of the plain one up to a line that tells of want of memory.
record LacksMemory (text plain : List ℕ) : Type 0 where
  lead : List ℕ
  rest : List ℕ
  is : text ≡ lead ++ (refusal_line refusals.NoMemory ++ rest)
  start : IsLineStart lead
  begins : IsPrefix lead plain

memory_line : (text front back : List ℕ) → IsLineStart front → text ≡ front ++ (refusal_line refusals.NoMemory ++ back) → HasLine (codes "NOMEM") text
memory_line text front back start is = (front, [], back, start, is)

-- a refusal that is neither of the two others
only_memory : (refusal : Refusal) → ((again : Cause) → refusal ≡ refusals.Again again → ⊥) → (IsFull refusal → ⊥) → refusal ≡ refusals.NoMemory
only_memory (refusals.Again cause) not_again not_full = absurd (not_again cause refl)
only_memory (refusals.Full cause) not_again not_full = absurd (not_full tt)
only_memory refusals.NoMemory not_again not_full = refl

module _ (limit : Option ℕ) (lane : ℕ) (fits : List Entry → Type 0) where
  text_complete : (pieces : List Exchange) (seen h : List Entry) → KeepsUp seen h → AreServed limit lane true fits seen pieces → IsLegalFrom (after seen) (entries_of pieces) → ((g : List Entry) → IsNoLarger g (history_from h (asked_of pieces)) → fits g)
      → (text_of pieces ≡ plain_from (after seen) (asked_of pieces)) ⊎ LacksMemory (text_of pieces) (plain_from (after seen) (asked_of pieces))
  text_complete [] seen h up each legal room = inl refl
  text_complete (x ∷ pieces) seen h up each legal room =
      let m = after seen in
      let parts = legal-parts m x.entries (entries_of pieces) legal in
      let behind : after (seen ++ x.entries) ≡ map_from m x.entries = map_from-append [] seen x.entries in
      let rest_plain = plain_from (plain_map m x.asked) (asked_of pieces) in
      elim (piece_cases limit lane fits m (ascending_history seen) seen x parts.0 x.asked each.0) [
        | inl is ↦
            let next : after (seen ++ x.entries) ≡ plain_map m x.asked = behind ∙ is.after in
            let rest = text_complete pieces (seen ++ x.entries) (h ++ plain_entries h x.asked) (keeps_piece limit lane true fits seen h x up parts.0 x.asked each.0) each.1 (subst (λ k. IsLegalFrom k (entries_of pieces)) (sym behind) parts.1) room in
            elim rest [
              | inl same ↦ inl (ap (λ w. w ++ text_of pieces) is.text ∙ ap (λ w. plain_answer m x.asked ++ w) (same ∙ ap (λ k. plain_from k (asked_of pieces)) next))
              | inr lacks ↦ inr (record {
                lead = x.text ++ lacks.lead;
                rest = lacks.rest;
                is = ap (λ w. x.text ++ w) lacks.is ∙ sym (append_assoc x.text lacks.lead (refusal_line refusals.NoMemory ++ lacks.rest));
                start = start_behind x.text lacks.lead is.start lacks.start;
                begins = subst (λ w. IsPrefix (x.text ++ lacks.lead) (w ++ rest_plain)) is.text (begins_behind x.text lacks.lead rest_plain (subst (λ k. IsPrefix lacks.lead (plain_from k (asked_of pieces))) next lacks.begins));
              })
            ]
        | inr is ↦
            let none : is.refusal ≡ refusals.NoMemory = only_memory is.refusal is.untold (λ full. no_lack lane fits seen h x pieces up room (is.full full)) in inr (record {
              lead = is.lead;
              rest = text_of pieces;
              is = ap (λ w. w ++ text_of pieces) (is.text ∙ ap (λ r. is.lead ++ refusal_line r) none) ∙ append_assoc is.lead (refusal_line refusals.NoMemory) (text_of pieces);
              start = is.start;
              begins = begins_more is.lead (plain_answer m x.asked) rest_plain is.begins;
            })
      ]

-- what was written of such a text
torn_memory : (text plain written : List ℕ) → LacksMemory text plain → IsPrefix written text → BeginsPlain written plain ⊎ HasLine (codes "NOMEM") written
torn_memory text plain written lacks begins = elim (prefix_cases written lacks.lead (refusal_line refusals.NoMemory ++ lacks.rest) (subst (IsPrefix written) lacks.is begins)) [
  | inl inside ↦ inl (inl (begins_then written lacks.lead plain inside lacks.begins))
  | inr behind ↦
      let line : List ℕ = codes "NOMEM" ++ [] in
      let torn : IsPrefix behind.0 line → BeginsPlain written plain = λ p. inr (lacks.lead, behind.0, behind.1, lacks.start, lacks.begins, (refusals.NoMemory, line, refl, (λ again is. cc), p)) in
      let whole : (back : List ℕ) → behind.0 ≡ refusal_line refusals.NoMemory ++ back → HasLine (codes "NOMEM") written = λ back is. memory_line written lacks.lead back lacks.start (behind.1 ∙ ap (λ w. lacks.lead ++ w) is) in
      elim (prefix_cases behind.0 (refusal_line refusals.NoMemory) lacks.rest behind.2) [
        | inl inside ↦ elim (prefix_cases behind.0 line (10 ∷ []) inside) [
          | inl p ↦ inl (torn p)
          | inr over ↦ elim (lf_cases over.0 over.2) [
            | inl last ↦ inl (torn ([], append-nil behind.0 ∙ (over.1 ∙ (ap (λ w. line ++ w) last ∙ append-nil line))))
            | inr last ↦ inr (whole [] (over.1 ∙ ap (λ w. line ++ w) last))
          ]
        ]
        | inr over ↦ inr (whole over.0 over.1)
      ]
]

written_complete : (text plain written : List ℕ) → (text ≡ plain) ⊎ LacksMemory text plain → IsPrefix written text → BeginsPlain written plain ⊎ HasLine (codes "NOMEM") written
written_complete text plain written (inl same) begins = inl (inl (subst (IsPrefix written) same begins))
written_complete text plain written (inr lacks) begins = torn_memory text plain written lacks begins

-- all of it
whole_complete : (text plain : List ℕ) → (text ≡ plain) ⊎ LacksMemory text plain → (text ≡ plain) ⊎ HasLine (codes "NOMEM") text
whole_complete text plain (inl same) = inl same
whole_complete text plain (inr lacks) = inr (memory_line text lacks.lead lacks.rest lacks.start lacks.is)

-- goes on to what is wanted
then_plain : {P Q L : Type 0} → (P → Q) → P ⊎ L → Q ⊎ L
then_plain f (inl p) = inl (f p)
then_plain f (inr l) = inr l

transcript_complete : (limit : Option ℕ) (lane : ℕ) (fits : List Entry → Type 0) (lines : List (List ℕ)) (entries : List Entry) (output : List ℕ) → IsTranscript limit lane true fits [] lines entries output → IsLegal entries → HasRoomFor fits lines
    → (output ≡ plain_text lines) ⊎ LacksMemory output (plain_text lines)
transcript_complete limit lane fits lines entries output t legal room =
    let all = text_complete limit lane fits t.pieces [] [] keeps_none t.each (subst IsLegal (sym t.of_entries) legal) (subst (λ w. (g : List Entry) → IsNoLarger g (history_from [] w) → fits g) (sym t.of_lines) room) in
    subst (λ w. (w ≡ plain_text lines) ⊎ LacksMemory w (plain_text lines)) t.of_output (subst (λ w. (text_of t.pieces ≡ plain_from [] w) ⊎ LacksMemory (text_of t.pieces) (plain_from [] w)) t.of_lines all)

-- a transcript of lines for which there is room
pub transcript_whole : (limit : Option ℕ) (lane : ℕ) (fits : List Entry → Type 0) (lines : List (List ℕ)) (entries : List Entry) (output : List ℕ) → IsTranscript limit lane true fits [] lines entries output → IsLegal entries → HasRoomFor fits lines
    → (output ≡ plain_text lines) ⊎ HasLine (codes "NOMEM") output
transcript_whole limit lane fits lines entries output t legal room = whole_complete output (plain_text lines) (transcript_complete limit lane fits lines entries output t legal room)

module _ (fits : List Entry → Type 0) (bytes : List ℕ) (ended : Bool) (lines : List (List ℕ)) (output : List ℕ) (room : HasRoomFor fits (served bytes ended)) (found : HasRoomFor fits lines → (output ≡ plain_text lines) ⊎ LacksMemory output (plain_text lines)) where
  all_lines : lines ≡ served bytes ended → (output ≡ plain_text lines) ⊎ HasLine (codes "NOMEM") output
  all_lines is = whole_complete output (plain_text lines) (found (subst (HasRoomFor fits) (sym is) room))

  some_lines : (written : List ℕ) → IsPrefix lines (served bytes ended) → IsPrefix written output → BeginsPlain written (plain_output bytes) ⊎ HasLine (codes "NOMEM") written
  some_lines written some begins =
      let first : IsPrefix (map request lines) (map request (served bytes ended)) = (map request some.0, sym (map-append request lines some.0) ∙ ap (map request) some.1) in
      then_plain (plain_prefix [] (map request lines) (map request (served bytes true)) written (begins_then _ _ _ first (served_begins bytes ended))) (written_complete output (plain_text lines) written (found (room_prefix fits lines (served bytes ended) some room)) begins)

  complete_by : (end : SessionEnd) (budget : ℕ) (w v : Option (List ℕ)) → TakenBy end budget bytes ended → ServedBy end (served bytes ended) lines → (said : SaidBy end w v output)
      → PlainBy end bytes (written_by end w v output said) ⊎ HasLine (codes "NOMEM") (written_by end w v output said)
  complete_by ends.Quit budget w v taken of_all said =
      then_plain (λ same. same ∙ ap (plain_from []) (ap (map request) of_all.0 ∙ served_quit bytes ended (subst (λ ls. list_any quits ls ≡ true) of_all.0 of_all.1))) (all_lines of_all.0)
  complete_by ends.EndOfInput budget w v taken of_all said = then_plain (λ same. same ∙ ap plain_text (of_all.0 ∙ ap (served bytes) taken.1)) (all_lines of_all.0)
  complete_by ends.ReadFault budget w v taken of_all said = then_plain (λ same. same ∙ ap plain_text (of_all.0 ∙ ap (served bytes) taken.1)) (all_lines of_all.0)
  complete_by ends.WriteFault budget w v taken of_all said = some_lines said.0 of_all said.1
  complete_by ends.NoMemory budget w v taken of_all said = some_lines said.0 of_all said.1
  complete_by (ends.Spent count) budget w v taken of_all said = then_plain (λ same. same ∙ ap plain_text (of_all.0 ∙ ap (served bytes) taken.2)) (all_lines of_all.0)

-- A session over a store that is the only lane, from the empty history on.
pub sole_session : (end : SessionEnd) (budget : ℕ) (t u : Option Told) (w v : Option (List ℕ)) (limit : Option ℕ) (lane : ℕ) (sole : Bool) (fits : List Entry → Type 0) (i j : ℕ) (m n : Option Refusal) (a b : List Entry → Type 0)
    → sole ≡ true → a [] → Session end budget t u w v limit lane sole fits i j m n a b → SoleSession end budget t u w v fits
unfolding plain_session
sole_session end budget t u w v limit lane sole fits i j m n a b alone new session =
    let s : Session end budget t u w v limit lane true fits i j m n a b = subst (λ q. Session end budget t u w v limit lane q fits i j m n a b) alone session in
    let found = s.replies [] new in
    let r = found.2.replies in
    let legal : IsLegal r.entries = subst IsLegal (r.grows.alone refl) r.grows.legal in record {
      plain = plain_session end budget t u w v limit lane fits i j m n a b new s;
      never_full = never_full limit lane fits s.bytes s.ended r.lines r.entries r.output r.transcript legal end w v r.of_all r.said;
      complete = λ room. complete_by fits s.bytes s.ended r.lines r.output room (transcript_complete limit lane fits r.lines r.entries r.output r.transcript legal) end budget w v s.taken r.of_all r.said;
    }
