-- What a session did, by its end.
use Rattle.std.specs.Prelude.{◌≡◌, ◌<◌, ◌≤◌, ℕ, ◌++◌, Option, List, length, map, Bool, true, false, Result, Ok, Err}
use Rattle.std.specs.List.{list_any, sum_by}
use mathlib.Core.List.{IsPrefix}
use Rattle.counts.specs.Counts.{RoseBy}
use Rattle.map_model.specs.History.{Entry}
use Rattle.map_model.specs.Ordered.{Follows, Grows}
use Rattle.map_model.specs.declared.refusal.Refusal.{Refusal}
use Rattle.outside.specs.Reading.{Told, Took, Ended}
use Rattle.outside.specs.Writing.{Wrote}
use Rattle.outside.specs.declared.stop.Stop.{Stop}
use Rattle.outside.specs.declared.stop.Stop.TheVariants as stops
use Rattle.line_protocol.specs.Requests.{Asked, request}
use Rattle.line_protocol.specs.Served.{served, quits, HasNoQuit}
use Rattle.session.specs.Transcripts.{Exchange, IsTranscript, owed, EndsLast}
use Rattle.session.specs.Turns.{IsTorn}
use Rattle.session.specs.Writes.{WroteSome}
use Rattle.session.specs.declared.session.TheConstants.{PIECE_BYTES}
use Rattle.session.specs.declared.session.SessionEnd.{SessionEnd}
use Rattle.session.specs.declared.session.SessionEnd.TheVariants.{Quit, EndOfInput, ReadFault, WriteFault, NoMemory, Spent}

-- The end by a stop of the sink, and by what became of the rest at the end of input.
abbrev pub stop_end : Stop → SessionEnd
stop_end stops.Failed = WriteFault
stop_end stops.NoMemory = NoMemory

abbrev pub rest_end : Result Bool Stop → SessionEnd
rest_end (Ok true) = Quit
rest_end (Ok false) = EndOfInput
rest_end (Err stop) = stop_end stop

-- the bytes that were taken, and whether 0 was answered
abbrev pub TakenBy : SessionEnd → ℕ → List ℕ → Bool → Type 0
TakenBy Quit budget bytes ended = length bytes ≤ budget
TakenBy EndOfInput budget bytes ended = (length bytes < budget) × (ended ≡ true)
TakenBy ReadFault budget bytes ended = (length bytes < budget) × (ended ≡ false)
TakenBy WriteFault budget bytes ended = length bytes ≤ budget
TakenBy NoMemory budget bytes ended = length bytes ≤ budget
TakenBy (Spent taken) budget bytes ended = (length bytes ≡ budget) × (taken ≡ budget) × (ended ≡ false)

-- which of the lines were served: all, of which the last one quits or none, or some first ones
abbrev pub ServedBy : SessionEnd → List (List ℕ) → List (List ℕ) → Type 0
ServedBy Quit all lines = (lines ≡ all) × (list_any quits lines ≡ true)
ServedBy EndOfInput all lines = (lines ≡ all) × (list_any quits lines ≡ false)
ServedBy ReadFault all lines = (lines ≡ all) × (list_any quits lines ≡ false)
ServedBy WriteFault all lines = IsPrefix lines all
ServedBy NoMemory all lines = IsPrefix lines all
ServedBy (Spent taken) all lines = (lines ≡ all) × (list_any quits lines ≡ false)

-- how much of the output was written: all of it, or some first bytes
abbrev pub SaidBy : SessionEnd → Option (List ℕ) → Option (List ℕ) → List ℕ → Type 0
SaidBy Quit before now output = Wrote before now output
SaidBy EndOfInput before now output = Wrote before now output
SaidBy ReadFault before now output = Wrote before now output
SaidBy WriteFault before now output = WroteSome before now output
SaidBy NoMemory before now output = WroteSome before now output
SaidBy (Spent taken) before now output = Wrote before now output

-- Of these lines some were served: their entries are new in the history, and their transcript tells the output. The count of refusals
-- rose as the output's lines owe, and where its last line tells a refusal, that is the last one.
pub record Replies (end : SessionEnd) (all : List (List ℕ)) (written_before written_now : Option (List ℕ))
    (limit : Option ℕ) (lane : ℕ) (sole : Bool) (fits : List Entry → Type 0) (count next : ℕ) (last_before last_now : Option Refusal) (old new : List Entry) : Type 0 where
  pub lines : List (List ℕ)
  pub entries : List Entry
  pub output : List ℕ
  pub of_all : ServedBy end all lines
  pub said : SaidBy end written_before written_now output
  pub grows : Grows lane sole entries old new
  pub transcript : IsTranscript limit lane sole fits old lines entries output
  pub rose : RoseBy (sum_by (owed limit) transcript.pieces) count next
  pub ends : EndsLast transcript.pieces last_before last_now

-- at a stop all lines but the one at hand were answered whole, and these ask first for what the front asks for
abbrev pub StopsBy : SessionEnd → Option (List ℕ) → Option (List ℕ) → List Asked → List Exchange → Type 0
StopsBy Quit before now front pieces = Unit {0}
StopsBy EndOfInput before now front pieces = Unit {0}
StopsBy ReadFault before now front pieces = Unit {0}
StopsBy WriteFault before now front pieces = IsTorn before now front pieces
StopsBy NoMemory before now front pieces = IsTorn before now front pieces
StopsBy (Spent taken) before now front pieces = Unit {0}

-- The lines of the front were served, and each of them was answered whole.
pub record InTurn (end : SessionEnd) (front all : List (List ℕ)) (written_before written_now : Option (List ℕ))
    (limit : Option ℕ) (lane : ℕ) (sole : Bool) (fits : List Entry → Type 0) (count next : ℕ) (last_before last_now : Option Refusal) (old new : List Entry) : Type 0 where
  pub replies : Replies end all written_before written_now limit lane sole fits count next last_before last_now old new
  pub stops : StopsBy end written_before written_now (map request front) replies.transcript.pieces

-- Bytes were taken, and of their lines some were served. They are a front and one piece at most, and no line of the front quits:
-- so all lines that end in what was taken were answered, and none quit, when more was asked for.
pub record Session (end : SessionEnd) (budget : ℕ) (told_before told_now : Option Told) (written_before written_now : Option (List ℕ))
    (limit : Option ℕ) (lane : ℕ) (sole : Bool) (fits : List Entry → Type 0) (count next : ℕ) (last_before last_now : Option Refusal) (before now : List Entry → Type 0) : Type 0 where
  pub bytes : List ℕ
  pub ended : Bool
  pub took : Took told_before told_now bytes
  pub answered : Ended told_before told_now ended
  pub taken : TakenBy end budget bytes ended
  pub front : List ℕ
  pub piece : List ℕ
  pub parts : bytes ≡ front ++ piece
  pub one_piece : length piece ≤ PIECE_BYTES
  pub stays : HasNoQuit (served front false)
  pub replies : Follows before now (InTurn end (served front false) (served bytes ended) written_before written_now limit lane sole fits count next last_before last_now)
