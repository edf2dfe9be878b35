-- When a script counts as served by its lane, and many scripts by theirs.
use Rattle.std.specs.Prelude.{◌≡◌, ◌≤◌, ◌<◌, ◌+◌, ℕ, List, [], ◌∷◌, ◌++◌, Bool, true, false, IsTrue, Option, Vec, Result, Ok, Err}
use Rattle.std.specs.declared.alloc.Global.{Global}
use Rattle.std.specs.List.{sum_by}
use mathlib.Core.List.{IsPrefix}
use Rattle.counts.specs.Counts.{RoseBy}
use Rattle.line_protocol.specs.Served.{served}
use Rattle.map_model.specs.History.{Entry, own}
use Rattle.map_model.specs.declared.refusal.ForkFault.{ForkFault}
use Rattle.map_model.specs.declared.refusal.ForkFault.TheVariants as faults
use Rattle.session.specs.Transcripts.{IsTranscript, owed}
use Rattle.session.specs.declared.session.SessionEnd.{SessionEnd}
use Rattle.session.specs.declared.session.SessionEnd.TheVariants.{Quit, EndOfInput, ReadFault, WriteFault, NoMemory, Spent}
use Rattle.lane_runner.specs.declared.slot.LaneEnd.{LaneEnd}

-- How a session may end over a script, and which lines it served then: each line, or for want of memory some first lines of some first bytes.
abbrev pub LinesBy : SessionEnd → List ℕ → List (List ℕ) → Type 0
LinesBy Quit script lines = lines ≡ served script true
LinesBy EndOfInput script lines = lines ≡ served script true
LinesBy ReadFault script lines = ⊥
LinesBy WriteFault script lines = ⊥
LinesBy NoMemory script lines = (bytes : List ℕ) × (ended : Bool) × IsPrefix bytes script × IsPrefix lines (served bytes ended)
LinesBy (Spent taken) script lines = ⊥

-- What a session wrote by its end: the whole text, or for want of memory some first bytes of it.
abbrev pub OutputBy : SessionEnd → List ℕ → List ℕ → Type 0
OutputBy Quit text output = output ≡ text
OutputBy EndOfInput text output = output ≡ text
OutputBy ReadFault text output = ⊥
OutputBy WriteFault text output = ⊥
OutputBy NoMemory text output = IsPrefix output text
OutputBy (Spent taken) text output = ⊥

-- Nothing is known of room: it is told of no history that it fits.
abbrev pub NothingFits : List Entry → Type 0
NothingFits history = ⊥

-- A lane served its script: the entries that a history gained of the lane are those of the lines served, and their transcript tells the output. So many refusals stand behind it.
-- Of a lane that is alone, want of room is told only where the entry of a call doesn't fit.
pub record ServesScript (limit : Option ℕ) (lane : ℕ) (sole : Bool) (fits : List Entry → Type 0) (script : List ℕ) (end : SessionEnd) (output : List ℕ) (owes : ℕ) (before now : List Entry) : Type 0 where
  pub lines : List (List ℕ)
  pub entries : List Entry
  pub text : List ℕ
  pub of_script : LinesBy end script lines
  pub said : OutputBy end text output
  pub mine : own lane now ≡ own lane before ++ entries
  pub alone : IsTrue sole → now ≡ before ++ entries
  pub transcript : IsTranscript limit lane sole fits before lines entries text
  pub owed : owes ≡ sum_by (owed limit) transcript.pieces

-- Each script was served by a lane of its own, and the lanes' numbers ascend, from a first one to below an end. So many refusals stand behind all outputs.
abbrev pub AllServe : Option ℕ → ℕ → ℕ → List (Vec ℕ Global) → List LaneEnd → ℕ → List Entry → List Entry → Type 0
AllServe limit from most [] [] owes before now = owes ≡ 0
AllServe limit from most [] (end ∷ ends) owes before now = ⊥
AllServe limit from most (script ∷ scripts) [] owes before now = ⊥
AllServe limit from most (script ∷ scripts) (end ∷ ends) owes before now =
    (lane : ℕ) × (mine : ℕ) × (others : ℕ) × (from ≤ lane) × (lane < most) × (owes ≡ mine + others)
    × ServesScript limit lane false NothingFits script.items end.ending end.output mine before now
    × AllServe limit (lane + 1) most scripts ends others before now

-- This lane served the first script, and lanes above it served the others. The count of refusals rose by as many as stand behind all outputs.
abbrev pub LanesServe : Option ℕ → ℕ → Bool → (List Entry → Type 0) → ℕ → List (Vec ℕ Global) → List LaneEnd → ℕ → ℕ → List Entry → List Entry → Type 0
LanesServe limit lane sole fits most [] ends count next before now = ⊥
LanesServe limit lane sole fits most (script ∷ scripts) [] count next before now = ⊥
LanesServe limit lane sole fits most (script ∷ scripts) (end ∷ ends) count next before now =
    (mine : ℕ) × (others : ℕ) × RoseBy (mine + others) count next
    × ServesScript limit lane sole fits script.items end.ending end.output mine before now
    × AllServe limit (lane + 1) most scripts ends others before now

-- Each script was served by the lane of its number, counted from this one on. So many refusals stand behind all outputs.
abbrev pub EachServes : Option ℕ → ℕ → List (Vec ℕ Global) → List LaneEnd → ℕ → List Entry → List Entry → Type 0
EachServes limit number [] [] owes before now = owes ≡ 0
EachServes limit number [] (end ∷ ends) owes before now = ⊥
EachServes limit number (script ∷ scripts) [] owes before now = ⊥
EachServes limit number (script ∷ scripts) (end ∷ ends) owes before now =
    (mine : ℕ) × (others : ℕ) × (owes ≡ mine + others)
    × ServesScript limit number false NothingFits script.items end.ending end.output mine before now
    × EachServes limit (number + 1) scripts ends others before now

-- Script i was served by lane i, from 0 on. The count of refusals rose by as many as stand behind all outputs.
abbrev pub PlacesServe : Option ℕ → Bool → (List Entry → Type 0) → List (Vec ℕ Global) → List LaneEnd → ℕ → ℕ → List Entry → List Entry → Type 0
PlacesServe limit sole fits [] ends count next before now = ⊥
PlacesServe limit sole fits (script ∷ scripts) [] count next before now = ⊥
PlacesServe limit sole fits (script ∷ scripts) (end ∷ ends) count next before now =
    (mine : ℕ) × (others : ℕ) × RoseBy (mine + others) count next
    × ServesScript limit 0 sole fits script.items end.ending end.output mine before now
    × EachServes limit 1 scripts ends others before now

-- Want of lanes is told exactly where so many forks are more than there is room for, and with it how many lanes there may be.
abbrev pub TellsRoom : {T : Type 0} → ℕ → ℕ → ℕ → Result T ForkFault → Type 0
TellsRoom room forks most (Ok x) = forks ≤ room
TellsRoom room forks most (Err (faults.Lanes given cap)) = (room < forks) × (cap ≡ most)
TellsRoom room forks most (Err faults.NoMemory) = Unit {0}

-- Each fork takes one of the room for good, also one that was ended since another was refused.
abbrev pub LeavesRoom : {T : Type 0} → ℕ → ℕ → ℕ → Result T ForkFault → Type 0
LeavesRoom before forks now (Ok x) = before ≡ now + forks
LeavesRoom before forks now (Err (faults.Lanes given cap)) = now ≡ 0
LeavesRoom before forks now (Err faults.NoMemory) = (now ≤ before) × (before ≤ now + forks)

-- Each script was served, and the count of refusals rose by as many as stand behind all outputs.
abbrev pub AllEnd : Option ℕ → ℕ → ℕ → List (Vec ℕ Global) → List LaneEnd → ℕ → ℕ → List Entry → List Entry → Type 0
AllEnd limit from most scripts ends count next before now = (owes : ℕ) × AllServe limit from most scripts ends owes before now × RoseBy owes count next

-- A script was served, the count rose by as many refusals as stand behind its output, and the history went on.
abbrev pub FirstServes : Option ℕ → ℕ → Bool → (List Entry → Type 0) → List ℕ → LaneEnd → ℕ → ℕ → List Entry → List Entry → Type 0
FirstServes limit lane sole fits script end count next before now =
    (owes : ℕ) × ServesScript limit lane sole fits script end.ending end.output owes before now × RoseBy owes count next × IsPrefix before now
