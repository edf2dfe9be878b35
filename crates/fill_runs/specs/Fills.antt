-- What a fill did, by its end.
use Rattle.std.specs.Prelude.{◌≡◌, ◌⊎◌, ℕ, Bool, IsTrue, List, [], Option, Some, None, codes}
use Rattle.map_model.specs.History.{Entry}
use Rattle.map_model.specs.Ordered.{Follows}
use Rattle.map_model.specs.declared.refusal.Refusal.{Refusal}
use Rattle.outside.specs.Writing.{Wrote}
use Rattle.session.specs.Plain.{plain_output}
use Rattle.session.specs.Sessions.{Replies}
use Rattle.session.specs.Writes.{WroteSome}
use Rattle.session.specs.declared.session.SessionEnd.TheVariants as ends
use Rattle.sole_sessions.specs.Rooms.{HasRoomFor}
use Rattle.generated_lines.specs.Generator.{made, generated}
use Rattle.fill_runs.specs.Summary.{counted, summary}
use Rattle.fill_runs.specs.declared.fills.FillEnd.{FillEnd}
use Rattle.fill_runs.specs.declared.fills.FillEnd.TheVariants.{Done, WriteFault, NoMemory}

-- All made lines were served as one session, whose patience gives up after one attempt. Its transcript tells the whole output.
pub record AllServed (number count : ℕ) (output : List ℕ) (lane : ℕ) (sole : Bool) (fits : List Entry → Type 0) (refusals next : ℕ) (last_before last_now : Option Refusal) (before now : List Entry → Type 0) : Type 0 where
  pub replies : Follows before now (Replies ends.EndOfInput (made number count) (Some []) (Some output) (Some 1) lane sole fits refusals next last_before last_now)
  -- over a store that stands for the empty history and is the only lane, an output in which no line tells of want of room or of memory is what one ordered map answers
  pub plain : IsTrue sole → before [] → counted (codes "FULL") output ≡ 0 → counted (codes "NOMEM") output ≡ 0 → output ≡ plain_output (generated number count)
  -- and so it is where the store has room for what the lines put, and no line tells of want of memory
  pub complete : IsTrue sole → before [] → HasRoomFor fits (made number count) → counted (codes "NOMEM") output ≡ 0 → output ≡ plain_output (generated number count)
  -- there no line tells of want of room, also where some tell of want of memory
  pub never_full : IsTrue sole → before [] → HasRoomFor fits (made number count) → counted (codes "FULL") output ≡ 0

-- Some first lines were served, and memory was wanting behind them.
abbrev pub SomeServed : ℕ → ℕ → ℕ → Bool → (List Entry → Type 0) → ℕ → ℕ → Option Refusal → Option Refusal → (List Entry → Type 0) → (List Entry → Type 0) → Type 0
SomeServed number count lane sole fits refusals next last_before last_now before now =
    (output : List ℕ) × Follows before now (Replies ends.NoMemory (made number count) (Some []) (Some output) (Some 1) lane sole fits refusals next last_before last_now)

-- all lines were served, or some where memory was wanting
abbrev pub ServedBy : Option (List ℕ) → ℕ → ℕ → ℕ → Bool → (List Entry → Type 0) → ℕ → ℕ → Option Refusal → Option Refusal → (List Entry → Type 0) → (List Entry → Type 0) → Type 0
ServedBy None number count lane sole fits refusals next last_before last_now before now = SomeServed number count lane sole fits refusals next last_before last_now before now
ServedBy (Some output) number count lane sole fits refusals next last_before last_now before now = AllServed number count output lane sole fits refusals next last_before last_now before now

-- how much of a summary was written: all of it, or some first bytes
abbrev pub SaidBy : FillEnd → Option (List ℕ) → Option (List ℕ) → List ℕ → Type 0
SaidBy Done before now text = Wrote before now text
SaidBy WriteFault before now text = WroteSome before now text
SaidBy NoMemory before now text = WroteSome before now text

-- All made lines were served, and of the summary of their output was written what the end says.
pub record Summed (end : FillEnd) (number count : ℕ) (written_before written_now : Option (List ℕ)) (lane : ℕ) (sole : Bool) (fits : List Entry → Type 0) (refusals next : ℕ) (last_before last_now : Option Refusal) (before now : List Entry → Type 0) : Type 0 where
  pub output : List ℕ
  pub served : AllServed number count output lane sole fits refusals next last_before last_now before now
  pub said : SaidBy end written_before written_now (summary count output)

-- Memory was wanting while the lines were served, and nothing was written.
pub record Stopped (end : FillEnd) (number count : ℕ) (written_before written_now : Option (List ℕ)) (lane : ℕ) (sole : Bool) (fits : List Entry → Type 0) (refusals next : ℕ) (last_before last_now : Option Refusal) (before now : List Entry → Type 0) : Type 0 where
  pub only : end ≡ NoMemory
  pub served : SomeServed number count lane sole fits refusals next last_before last_now before now
  pub nothing : Wrote written_before written_now []

-- What a fill did: it summed up the output of all lines, or it stopped before and wrote nothing.
abbrev pub Filled : FillEnd → ℕ → ℕ → Option (List ℕ) → Option (List ℕ) → ℕ → Bool → (List Entry → Type 0) → ℕ → ℕ → Option Refusal → Option Refusal → (List Entry → Type 0) → (List Entry → Type 0) → Type 0
Filled end number count written_before written_now lane sole fits refusals next last_before last_now before now =
    Summed end number count written_before written_now lane sole fits refusals next last_before last_now before now ⊎ Stopped end number count written_before written_now lane sole fits refusals next last_before last_now before now
