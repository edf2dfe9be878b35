-- How commands end.
use Rattle.std.specs.Prelude.{◌≡◌, ◌⊎◌, ◌<◌, ◌≤◌, ◌+◌, ◌*◌, ◌/◌, ℕ, true, List, [], length, codes, Option, Some, None}
use Rattle.std.specs.List.{AllByRecursion}
use Rattle.board_rule.specs.Passes.{view}
use Rattle.board_rule.specs.declared.board.Pass.{Pass}
use Rattle.counts.specs.Counts.{Rose}
use Rattle.history_sizes.specs.Sizes.{new_keys, longest_new}
use Rattle.index_lane.specs.Causes.{Fits}
use Rattle.line_protocol.specs.Served.{served}
use Rattle.line_reader.specs.declared.limits.TheConstants.{MOST_INPUT}
use Rattle.map_model.specs.History.{Entry, IsLegal}
use Rattle.map_model.specs.declared.refusal.Refusal.{Refusal}
use Rattle.outside.specs.Reading.{Told}
use Rattle.row_words.specs.declared.shape.Shape.{Shape}
use Rattle.session.specs.Plain.{HasLine, PlainSession, plain_output}
use Rattle.session.specs.Sessions.{Session}
use Rattle.session.specs.declared.session.SessionEnd.{SessionEnd}
use Rattle.session.specs.declared.session.SessionEnd.TheVariants.{Quit, EndOfInput, ReadFault, WriteFault, NoMemory, Spent}
use Rattle.sole_sessions.specs.PlainHistory.{plain_history}

-- done, words that are no command, a read fault, a write fault, no memory, a door fault, or an input that is too long
abbrev pub IsStatus : ℕ → Type 0
IsStatus status = (status ≡ 0) ⊎ (status ≡ 2) ⊎ (status ≡ 3) ⊎ (status ≡ 4) ⊎ (status ≡ 5) ⊎ (status ≡ 6) ⊎ (status ≡ 7)

-- the status of a session's end
abbrev pub status_of : SessionEnd → ℕ
status_of Quit = 0
status_of EndOfInput = 0
status_of ReadFault = 3
status_of WriteFault = 4
status_of NoMemory = 5
status_of (Spent taken) = 7

-- the most bytes of a run
abbrev pub most_bytes : ℕ
most_bytes = MOST_INPUT

-- the empty history
abbrev pub IsNew : List Entry → Type 0
IsNew history = history ≡ []

-- just this history
abbrev pub IsJust : List Entry → List Entry → Type 0
IsJust seen history = history ≡ seen

-- What one ordered map puts of these lines is within the numbers of a shape: so many keys may live, so many leaves may be made for them, and so many prefixes of anchors.
pub record IsWithin (k : Shape) (lines : List (List ℕ)) : Type 0 where
  pub keys : new_keys (plain_history lines) < k.values
  pub leaves : 1 + new_keys (plain_history lines) / (k.soft / 2) ≤ k.leaves
  pub prefixes : 1 + (new_keys (plain_history lines) / (k.soft / 2)) * longest_new (plain_history lines) ≤ k.items

-- the whole plain output was written, unless memory was wanting
abbrev pub IsComplete : ℕ → List ℕ → List ℕ → Type 0
IsComplete status bytes output = ((status ≡ 0) × (output ≡ plain_output bytes)) ⊎ (status ≡ 5) ⊎ HasLine (codes "NOMEM") output

-- no call was refused
abbrev pub IsUnrefused : ℕ → Option Refusal → Type 0
IsUnrefused refusals last = (refusals ≡ 0) × (last ≡ None)

-- the history is legal, and all its calls are those of the first lane
pub record IsFirstLanes (seen : List Entry) : Type 0 where
  pub legal : IsLegal seen
  pub first : AllByRecursion (λ (e : Entry). e.lane ≡ 0) seen

-- What a run took and wrote, how often its lane was refused, the last refusal, and what the lane had seen at its end.
pub record Ran (k : Shape) (status : ℕ) (told_before told_now : Option Told) (written_before written_now : Option (List ℕ)) (reads_before reads_now writes_before writes_now refusals : ℕ) (last : Option Refusal) (seen : List Entry) : Type 0 where
  pub mine : IsFirstLanes seen
  -- a session of an index that is the only lane came to this end
  pub end : SessionEnd
  pub of_end : status ≡ status_of end
  -- what the lane had seen is a legal history from nothing, its output is the transcript of these calls, and want of room was told only where there
  -- is none. For each line that tells a refusal there was one at least, and where the last line does, it tells the last one.
  pub session : Session end most_bytes told_before told_now written_before written_now (Some 1) 0 true (Fits k) 0 refusals None last IsNew (IsJust seen)
  -- where no line tells a refusal, its output is what one ordered map answers
  pub plain : PlainSession end most_bytes told_before told_now written_before written_now
  -- and where nothing failed, the input had fewer bytes than the most, and what its lines put is within the shape, all of that was written unless memory was wanting
  pub complete : (Rose reads_before reads_now → ⊥) → (Rose writes_before writes_now → ⊥) → length plain.bytes < most_bytes → IsWithin k (served plain.bytes true) → IsComplete status plain.bytes plain.output
  -- where what its lines put is within the shape, none tells want of room, also where one tells want of memory or something failed
  pub never_full : IsWithin k (served plain.bytes true) → HasLine (codes "FULL") plain.output → ⊥

-- What a run did, by the pass that it returns. Without one no index could be made, and nothing was read or written.
abbrev pub RanWith : Shape → ℕ → Option Told → Option Told → Option (List ℕ) → Option (List ℕ) → ℕ → ℕ → ℕ → ℕ → Option Pass → ℕ → Option Refusal → Type 0
RanWith k status told_before told_now written_before written_now reads_before reads_now writes_before writes_now None refusals last = (status ≡ 5) × (told_now ≡ told_before) × (written_now ≡ written_before) × IsUnrefused refusals last
RanWith k status told_before told_now written_before written_now reads_before reads_now writes_before writes_now (Some pass) refusals last = Ran k status told_before told_now written_before written_now reads_before reads_now writes_before writes_now refusals last (view pass).seen
