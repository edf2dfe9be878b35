-- What a call on the shared map did, and what it leaves of a lane.
use Rattle.std.specs.Prelude.{◌≡◌, ℕ, ◌<◌, List, [], ◌∷◌, Bool, true, false, Option, Some, None, Result, Err}
use Rattle.atomic_table.specs.Table.{Me}
use Rattle.map_model.specs.Calls.{Call, Reply, Get, Put, Del, Part, Pairs, answer_of, map_after}
use Rattle.map_model.specs.History.{Entry, IsLegal, entry_of}
use Rattle.map_model.specs.Ordered.{got, was_put, was_gone}
use Rattle.map_model.specs.declared.refusal.Refusal.{Refusal}
use Rattle.map_model.specs.declared.refusal.Refusal.TheVariants.{Again, Full, NoMemory}
use Rattle.map_model.specs.declared.refusal.Again as again
use Rattle.map_model.specs.declared.refusal.Again.TheVariants.{Locked, Changed, Stale, Moved, Turn, Pinned, Bin, Filled}
use Rattle.lane_stores.specs.declared.view.View.{View}
use Rattle.lane_stores.specs.declared.deed.Deed.{Deed}
use Rattle.lane_stores.specs.declared.deed.Deed.TheVariants as deeds
use Rattle.lane_stores.specs.Rule.{Map, IsOf, Has}

-- a lane's seat between two calls
pub record IsIdle (most lane : ℕ) (m : Me Map View) : Type 0 where
  pub bare : m.1 ≡ []
  pub idle : m.0.holds ≡ false
  pub fixed : m.0.most ≡ most
  pub mine : Has m.0.ended lane
  pub below : lane < most
  pub of : IsOf most m.0.seen

-- the map that a seat has out
abbrev pub map_in : List (ℕ × Map) → Map
map_in [] = []
map_in (x ∷ xs) = x.1

-- a lane's seat within a call
pub record IsOut (most lane : ℕ) (m : Me Map View) : Type 0 where
  pub out : m.1 ≡ (0, map_in m.1) ∷ []
  pub holds : m.0.holds ≡ true
  pub fixed : m.0.most ≡ most
  pub mine : Has m.0.ended lane
  pub below : lane < most
  pub of : IsOf most m.0.seen

-- the call that was answered, and its reply
abbrev pub told_by : Deed → Option (Call × Reply)
told_by deeds.Nothing = None
told_by (deeds.Got key found value) = Some (Get key.now, got found value.now)
told_by (deeds.WasPut key value new) = Some (Put key.now value.now, was_put new)
told_by (deeds.WasGone key gone) = Some (Del key.now, was_gone gone)
told_by (deeds.Left from upto page) = Some (Part from.now upto.now, Pairs page.now.pairs)

-- its entry, where there is one
abbrev pub entries_of : ℕ → List Entry → Option (Call × Reply) → List Entry
entries_of lane seen None = []
entries_of lane seen (Some x) = entry_of lane seen x.0 x.1 ∷ []

-- The map went on by the call, and the reply is right; or it stayed.
abbrev pub GoesBy : Map → Option (Call × Reply) → Map → Type 0
GoesBy before None now = now ≡ before
GoesBy before (Some x) now = (now ≡ map_after before x.0) × (x.1 ≡ answer_of before x.0)

-- The lane with this number had the map.
abbrev pub NamesLane : ℕ → again.Again → Type 0
NamesLane most (Turn holder) = holder < most
NamesLane most (Locked leaf holder) = ⊥
NamesLane most (Changed leaf before after) = ⊥
NamesLane most (Stale leaf expected searched) = ⊥
NamesLane most (Moved first second) = ⊥
NamesLane most (Pinned table pins) = ⊥
NamesLane most (Bin holder) = ⊥
NamesLane most (Filled leaf count hard) = ⊥

-- A refusal is for a lane of the map that had it, and comes to no lane that is alone.
abbrev pub IsForLane : ℕ → Bool → Refusal → Type 0
IsForLane most sole (Again cause) = NamesLane most cause × (sole ≡ true → ⊥)
IsForLane most sole (Full cause) = ⊥
IsForLane most sole NoMemory = ⊥

-- this history was seen, which is legal
pub record HasSeen (seen h : List Entry) : Type 0 where
  pub same : h ≡ seen
  pub legal : IsLegal h

-- the answer of a call that is refused
abbrev pub refused_by : Refusal → Result Bool Refusal
refused_by refusal = Err refusal
