-- How a fill ends.
use Rattle.std.specs.Prelude.{◌≡◌, ℕ, true, List, codes, Option, Some, None}
use Rattle.board_rule.specs.Passes.{view}
use Rattle.board_rule.specs.declared.board.Pass.{Pass}
use Rattle.fill_runs.specs.Fills as fills
use Rattle.fill_runs.specs.Summary.{counted, summary}
use Rattle.fill_runs.specs.declared.fills.FillEnd.{FillEnd}
use Rattle.fill_runs.specs.declared.fills.FillEnd.TheVariants.{Done, WriteFault, NoMemory}
use Rattle.generated_lines.specs.Generator.{made, generated}
use Rattle.index_lane.specs.Causes.{Fits}
use Rattle.map_model.specs.History.{Entry}
use Rattle.map_model.specs.declared.refusal.Refusal.{Refusal}
use Rattle.outside.specs.Writing.{Wrote}
use Rattle.row_words.specs.declared.shape.Shape.{Shape}
use Rattle.session.specs.Plain.{plain_output}
use Rattle.worm.specs.Runs.{IsFirstLanes, IsJust, IsNew, IsUnrefused, IsWithin}

-- the status of a fill's end
abbrev pub fill_status : FillEnd → ℕ
fill_status Done = 0
fill_status WriteFault = 4
fill_status NoMemory = 5

-- The summary of an output was written.
pub record HasSummary (k : Shape) (number count : ℕ) (written_before written_now : Option (List ℕ)) : Type 0 where
  pub output : List ℕ
  pub wrote : Wrote written_before written_now (summary count output)
  -- where no line of it tells want of room or of memory, it is what one ordered map answers
  pub plain : counted (codes "FULL") output ≡ 0 → counted (codes "NOMEM") output ≡ 0 → output ≡ plain_output (generated number count)
  -- and so it is where what the made lines put is within the shape, and no line tells want of memory
  pub complete : IsWithin k (made number count) → counted (codes "NOMEM") output ≡ 0 → output ≡ plain_output (generated number count)
  -- there no line tells want of room, also where some tell want of memory
  pub never_full : IsWithin k (made number count) → counted (codes "FULL") output ≡ 0

-- What a fill made and wrote, how often its lane was refused, the last refusal, and what the lane had seen at its end.
pub record Filled (k : Shape) (number count status : ℕ) (written_before written_now : Option (List ℕ)) (refusals : ℕ) (last : Option Refusal) (seen : List Entry) : Type 0 where
  pub mine : IsFirstLanes seen
  -- a fill of an index that is the only lane came to this end
  pub end : FillEnd
  pub of_end : status ≡ fill_status end
  -- what the lane had seen is a legal history from nothing, the output that was summed up is the transcript of these calls, and want of room was told
  -- only where there is none. For each line that tells a refusal there was one at least, and where the last line does, it tells the last one.
  pub served : fills.Filled end number count written_before written_now 0 true (Fits k) 0 refusals None last IsNew (IsJust seen)
  pub summed : status ≡ 0 → HasSummary k number count written_before written_now

-- What a fill did, by the pass that it returns. Without one no index could be made, and nothing was written.
abbrev pub FilledWith : Shape → ℕ → ℕ → ℕ → Option (List ℕ) → Option (List ℕ) → Option Pass → ℕ → Option Refusal → Type 0
FilledWith k number count status written_before written_now None refusals last = (status ≡ 5) × (written_now ≡ written_before) × IsUnrefused refusals last
FilledWith k number count status written_before written_now (Some pass) refusals last = Filled k number count status written_before written_now refusals last (view pass).seen
