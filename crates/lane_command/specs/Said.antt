-- What lanes answer to the lines of an input, and how much of that was written.
use Rattle.std.specs.Prelude.{◌≡◌, ◌⊎◌, ◌+◌, ℕ, List, [], ◌∷◌, ◌++◌, codes, max, map, Bool, true, false, IsTrue, Option, None, Some}
use Rattle.counts.specs.Counts.{RoseBy}
use Rattle.map_model.specs.History.{Entry}
use Rattle.outside.specs.Writing.{Wrote}
use Rattle.line_reader.specs.Cut.{lines}
use Rattle.line_reader.specs.Told.{Told, tells}
use Rattle.line_protocol.specs.ReplyLine.{number_line}
use Rattle.session.specs.Plain.{HasNoRefusal, plain_output}
use Rattle.session.specs.Writes.{WroteSome}
use Rattle.session.specs.declared.session.SessionEnd.TheVariants.{EndOfInput}
use Rattle.lane_lines.specs.Deal.{script_of, faults_of}
use Rattle.lane_runner.specs.Runs.{ServesScript, NothingFits}
use Rattle.lane_command.specs.declared.run.LanesEnd.{LanesEnd}
use Rattle.lane_command.specs.declared.run.LanesEnd.TheVariants.{Done, WriteFault, NoMemory}

-- after how many refused attempts a call is given up: so many, and at least one, or never
abbrev pub limit_of : Option ℕ → Option ℕ
limit_of None = None
limit_of (Some tries) = Some (max tries 1)

-- what is told of an input's lines
abbrev pub told_of : List ℕ → List Told
told_of input = map tells (lines input true)

-- the line before a lane's output
abbrev pub lane_line : ℕ → List ℕ
lane_line lane = number_line (codes "LANE") (lane ∷ [])

-- the outputs of lanes from a number on, each behind the line of its lane
abbrev pub blocks : ℕ → List (List ℕ) → List ℕ
blocks lane [] = []
blocks lane (output ∷ outputs) = lane_line lane ++ (output ++ blocks (lane + 1) outputs)

-- Each lane from a number on, of so many, answered its whole script by its output. So many refusals stand behind these outputs.
abbrev pub EachAnswers : Option ℕ → ℕ → List Told → ℕ → List (List ℕ) → ℕ → List Entry → List Entry → Type 0
EachAnswers limit lanes told lane [] owes before now = (lane ≡ lanes) × (owes ≡ 0)
EachAnswers limit lanes told lane (output ∷ outputs) owes before now =
    (mine : ℕ) × (others : ℕ) × (owes ≡ mine + others)
    × ServesScript limit lane false NothingFits (script_of lanes lane told) EndOfInput output mine before now
    × EachAnswers limit lanes told (lane + 1) outputs others before now

-- Lane 0 did, and so did each other lane. The count of refusals rose by as many as stand behind all outputs.
abbrev pub LanesAnswer : Option ℕ → ℕ → List Told → Bool → (List Entry → Type 0) → List (List ℕ) → ℕ → ℕ → List Entry → List Entry → Type 0
LanesAnswer limit lanes told sole fits [] count next before now = ⊥
LanesAnswer limit lanes told sole fits (output ∷ outputs) count next before now =
    (mine : ℕ) × (others : ℕ) × RoseBy (mine + others) count next
    × ServesScript limit 0 sole fits (script_of lanes 0 told) EndOfInput output mine before now
    × EachAnswers limit lanes told 1 outputs others before now

-- All lanes answered their scripts of these lines, and the text says the lines of no lane and then each lane's output.
pub record LanesSaid (limit : Option ℕ) (lanes : ℕ) (told : List Told) (sole : Bool) (fits : List Entry → Type 0) (count next : ℕ) (before now : List Entry) (text : List ℕ) : Type 0 where
  pub outputs : List (List ℕ)
  pub answers : LanesAnswer limit lanes told sole fits outputs count next before now
  pub says : text ≡ faults_of lanes told ++ blocks 0 outputs
  -- one lane alone, from the empty history on, says what one ordered map answers to its script, where no line tells of want of room or of memory
  pub plain : lanes ≡ 1 → IsTrue sole → before ≡ [] → HasNoRefusal text → outputs ≡ plain_output (script_of lanes 0 told) ∷ []

-- A text of this kind was written whole, or some first bytes of one. For want of memory it may be that nothing was, and only so where a lane didn't answer its whole script.
abbrev pub SaidBy : LanesEnd → Option (List ℕ) → Option (List ℕ) → (List ℕ → Type 0) → Type 0
SaidBy Done before now says = (text : List ℕ) × says text × Wrote before now text
SaidBy WriteFault before now says = (text : List ℕ) × says text × WroteSome before now text
SaidBy NoMemory before now says = Wrote before now [] ⊎ ((text : List ℕ) × says text × WroteSome before now text)
