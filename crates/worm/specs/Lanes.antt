-- What lanes did that answered one input.
use Rattle.std.specs.Prelude.{◌≡◌, ◌≢◌, ◌⊎◌, ◌<◌, ℕ, Bool, true, false, List, [], length, Option, Some, None}
use Rattle.std.specs.List.{AllByRecursion}
use Rattle.board_rule.specs.Passes.{view}
use Rattle.board_rule.specs.declared.board.Pass.{Pass}
use Rattle.index_lane.specs.Causes.{Fits}
use Rattle.lane_command.specs.Said.{LanesSaid, SaidBy, limit_of, told_of}
use Rattle.lane_command.specs.declared.input.InputFault.{InputFault}
use Rattle.lane_command.specs.declared.input.InputFault.TheVariants as faults
use Rattle.lane_command.specs.declared.input.TheConstants.{WHOLE_INPUT}
use Rattle.lane_command.specs.declared.run.LanesEnd.{LanesEnd}
use Rattle.lane_command.specs.declared.run.LanesEnd.TheVariants.{Done, WriteFault, NoMemory}
use Rattle.map_model.specs.History.{Entry, IsLegal, IsNumbered}
use Rattle.map_model.specs.declared.refusal.Refusal.{Refusal}
use Rattle.outside.specs.Reading.{Told, Took, Ended}
use Rattle.row_words.specs.declared.shape.Shape.{Shape}
use Rattle.worm.specs.Runs.{IsUnrefused}

-- the status of an input that wasn't read whole
abbrev pub input_status : InputFault → ℕ
input_status faults.ReadFault = 3
input_status faults.NoMemory = 5
input_status faults.TooLong = 7

-- the status of the lanes' end
abbrev pub lanes_status : LanesEnd → ℕ
lanes_status Done = 0
lanes_status WriteFault = 4
lanes_status NoMemory = 5

-- What all lanes of an index wrote as answers to an input, how often they were refused, and what the first of them had seen at the end, which has all
-- their calls.
pub record Answered (k : Shape) (tries : Option ℕ) (bytes : List ℕ) (status : ℕ) (written_before written_now : Option (List ℕ)) (sole : Bool) (refusals : ℕ) (seen : List Entry) : Type 0 where
  pub legal : IsLegal seen
  pub numbered : IsNumbered seen
  pub below : AllByRecursion (λ (e : Entry). e.lane < k.lanes) seen
  pub end : LanesEnd
  pub of_end : status ≡ lanes_status end
  -- a lane is sole where it is the only one, and not among others, unless there was no memory for them
  pub alone : k.lanes ≡ 1 → sole ≡ true
  pub among : 1 < k.lanes → end ≢ NoMemory → sole ≡ false
  -- The fault lines, and behind them for each lane its line and the transcript of its own calls that answers its script. For each line that tells
  -- another lane in the way there were as many refusals as a call is tried, and one for each that tells want of room. A sole lane tells it only where there is none.
  pub said : SaidBy end written_before written_now (LanesSaid (limit_of tries) k.lanes (told_of bytes) sole (Fits k) 0 refusals [] seen)

-- What they did, by the pass that is returned. Without one no index could be made, and nothing was written.
abbrev pub AnsweredWith : Shape → Option ℕ → List ℕ → ℕ → Option (List ℕ) → Option (List ℕ) → Option Pass → ℕ → Option Refusal → Type 0
AnsweredWith k tries bytes status written_before written_now None refusals last = (status ≡ 5) × (written_now ≡ written_before) × IsUnrefused refusals last
AnsweredWith k tries bytes status written_before written_now (Some pass) refusals last = Answered k tries bytes status written_before written_now (view pass).sole refusals (view pass).seen

-- Why an input wasn't read to its end: it was too long exactly where as many bytes were taken as may be.
abbrev pub IsCutShort : ℕ → ℕ → Type 0
IsCutShort taken status = ((status ≡ 7) × (taken ≡ WHOLE_INPUT)) ⊎ (((status ≡ 3) ⊎ (status ≡ 5)) × (taken < WHOLE_INPUT))

-- What was read, and what so many lanes answered to it. Nothing was written where the input wasn't read to its end.
pub record LanesRan (k : Shape) (count : ℕ) (tries : Option ℕ) (status : ℕ) (told_before told_now : Option Told) (written_before written_now : Option (List ℕ)) (pass : Option Pass) (refusals : ℕ) (last : Option Refusal) : Type 0 where
  pub bytes : List ℕ
  pub ended : Bool
  pub took : Took told_before told_now bytes
  pub answered : Ended told_before told_now ended
  pub whole : ended ≡ true → (length bytes < WHOLE_INPUT) × AnsweredWith (record k { lanes = count }) tries bytes status written_before written_now pass refusals last
  pub cut : ended ≡ false → IsCutShort (length bytes) status × (written_now ≡ written_before) × (pass ≡ None) × IsUnrefused refusals last
