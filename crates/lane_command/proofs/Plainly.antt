-- One lane alone says what one ordered map answers.
use Rattle.std.proofs.Common.{◌≡◌, ℕ, ◌+◌, List, [], ◌∷◌, ◌++◌, length, codes, Bool, true, false, IsTrue, Option, refl, sym, ap, ◌∙◌, subst, arith, inr, append_assoc}
use Rattle.std.proofs.lemmas.List.{append-nil}
use mathlib.Core.Bool.{false≢true}
use Rattle.map_model.specs.History.{Entry, IsLegal}
use Rattle.line_reader.specs.Told.{Told}
use Rattle.line_protocol.specs.ReplyLine.{number_word}
use Rattle.std.specs.List.{flat_map}
use Rattle.session.specs.Plain.{HasLine, HasNoRefusal, IsLineStart, plain_output, plain_text}
use Rattle.session.proofs.PlainSessions.{transcript_plain}
use Rattle.session.proofs.PlainTexts.{start_behind}
use Rattle.lane_lines.specs.Deal.{script_of, faults_of}
use Rattle.lane_command.specs.Said.{EachAnswers, LanesAnswer, blocks, lane_line}

-- a line of the last part of a text is a line of the text, where that part begins a line
line_behind : (word front text : List ℕ) → IsLineStart front → HasLine word text → HasLine word (front ++ text)
line_behind word front text start has =
    (front ++ has.0, has.1, has.2, start_behind front has.0 start has.3, ap (λ w. front ++ w) has.4 ∙ sym (append_assoc front has.0 (word ++ (has.1 ++ 10 ∷ has.2))))

none_behind : (front text : List ℕ) → IsLineStart front → HasNoRefusal (front ++ text) → HasNoRefusal text
none_behind front text start none = record { full = λ has. none.full (line_behind (codes "FULL") front text start has); no_memory = λ has. none.no_memory (line_behind (codes "NOMEM") front text start has) }

-- the line of lane 0 ends what stands before its output
lane_start : (front : List ℕ) → IsLineStart (front ++ lane_line 0)
lane_start front = inr (front ++ (codes "LANE" ++ flat_map number_word (0 ∷ [])), sym (append_assoc front (codes "LANE" ++ flat_map number_word (0 ∷ [])) (10 ∷ [])))

-- each lane has an output
each_length : (limit : Option ℕ) (lanes : ℕ) (told : List Told) (lane : ℕ) (outputs : List (List ℕ)) (owes : ℕ) (before now : List Entry) → EachAnswers limit lanes told lane outputs owes before now → lane + length outputs ≡ lanes
each_length limit lanes told lane [] owes before now all = omega (arith, all.0)
each_length limit lanes told lane (output ∷ outputs) owes before now all = omega (arith, each_length limit lanes told (lane + 1) outputs all.1 before now all.4)

-- one lane alone, from the empty history on, answers as a map does, where no line of the text tells of want of room or of memory
pub lane_plain : (limit : Option ℕ) (lanes : ℕ) (told : List Told) (fits : List Entry → Type 0) (outputs : List (List ℕ)) (count next : ℕ) (now : List Entry) → IsLegal now → lanes ≡ 1 → LanesAnswer limit lanes told true fits outputs count next [] now
    → HasNoRefusal (faults_of lanes told ++ blocks 0 outputs) → outputs ≡ plain_output (script_of lanes 0 told) ∷ []
lane_plain limit lanes told fits [] count next now legal one all none = absurd all
lane_plain limit lanes told fits (output ∷ other ∷ outputs) count next now legal one all none = absurd (omega (arith, one, each_length limit lanes told 1 (other ∷ outputs) all.1 [] now all.4))
lane_plain limit lanes told fits (output ∷ []) count next now legal one all none =
    let s = all.3 in
    let front = faults_of lanes told ++ lane_line 0 in
    let is : faults_of lanes told ++ blocks 0 (output ∷ []) ≡ front ++ output = ap (λ w. faults_of lanes told ++ (lane_line 0 ++ w)) (append-nil output) ∙ sym (append_assoc (faults_of lanes told) (lane_line 0) output) in
    let said : HasNoRefusal output = none_behind front output (lane_start (faults_of lanes told)) (subst HasNoRefusal is none) in
    let plain = transcript_plain limit 0 fits s.lines s.entries s.text s.transcript (subst IsLegal (s.alone refl) legal) (subst HasNoRefusal s.said said) in
    ap (λ w. w ∷ []) (s.said ∙ (plain ∙ ap plain_text s.of_script))

-- the same of a lane of which it is said that it is alone
pub said_plain : (limit : Option ℕ) (lanes : ℕ) (told : List Told) (sole : Bool) (fits : List Entry → Type 0) (outputs : List (List ℕ)) (count next : ℕ) (before now : List Entry) (text : List ℕ) → IsLegal now → LanesAnswer limit lanes told sole fits outputs count next before now
    → text ≡ faults_of lanes told ++ blocks 0 outputs → lanes ≡ 1 → IsTrue sole → before ≡ [] → HasNoRefusal text → outputs ≡ plain_output (script_of lanes 0 told) ∷ []
said_plain limit lanes told false fits outputs count next before now text legal all says one alone empty none = absurd (false≢true alone)
said_plain limit lanes told true fits outputs count next before now text legal all says one alone empty none =
    lane_plain limit lanes told fits outputs count next now legal one (subst (λ h. LanesAnswer limit lanes told true fits outputs count next h now) empty all) (subst HasNoRefusal says none)
