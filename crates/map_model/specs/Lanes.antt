-- What a fork of a lane is, and when none is made.
use Rattle.std.specs.Prelude.{◌≡◌, ◌≤◌, ◌<◌, ◌+◌, ℕ, List, Bool, false, Option, None, Result, Ok, Err}
use Rattle.map_model.specs.History.{Entry}
use Rattle.map_model.specs.declared.refusal.ForkFault.{ForkFault}
use Rattle.map_model.specs.declared.refusal.ForkFault.TheVariants.{Lanes, NoMemory}
use Rattle.map_model.specs.declared.refusal.Refusal.{Refusal}

-- It has seen what its store has, is of the same index, and was never refused. Its number is above those of the forks that its store made before, and below those of the forks that it makes later. It makes no forks itself.
pub record IsFork {S : Type 0} (lane : S → ℕ) (sole : S → Bool) (origin refusals : S → ℕ) (last : S → Option Refusal) (seen : S → List Entry) (room lanes next : S → ℕ) (old new child : S) : Type 0 where
  pub same_seen : seen child ≡ seen old
  pub same_origin : origin child ≡ origin old
  pub same_lanes : lanes child ≡ lanes old
  pub among : sole child ≡ false
  pub above : next old ≤ lane child
  pub below : lane child < next new
  pub uncounted : refusals child ≡ 0
  pub unrefused : last child ≡ None
  pub no_room : room child ≡ 0

-- A fork takes one of the room and a refusal none, and want of lanes is told only where there was none.
abbrev pub ForksByRoom : {T : Type 0} → ℕ → ℕ → Result T ForkFault → Type 0
ForksByRoom before now (Ok child) = before ≡ now + 1
ForksByRoom before now (Err (Lanes given cap)) = (before ≡ 0) × (now ≡ 0)
ForksByRoom before now (Err NoMemory) = now ≡ before

-- It is told that there are no more lanes, and how many there may be.
abbrev pub TellsLanes : {T : Type 0} → ℕ → Result T ForkFault → Type 0
TellsLanes most (Ok child) = ⊥
TellsLanes most (Err (Lanes given cap)) = cap ≡ most
TellsLanes most (Err NoMemory) = ⊥

-- If it is told that there are no more lanes, then with how many are given, of which this holds.
abbrev pub TellsGiven : {T : Type 0} → (ℕ → Type 0) → Result T ForkFault → Type 0
TellsGiven says (Ok child) = Unit {0}
TellsGiven says (Err (Lanes given cap)) = says given
TellsGiven says (Err NoMemory) = Unit {0}
