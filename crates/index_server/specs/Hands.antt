-- What several workers serve, each by a lane of its own.
use Rattle.std.specs.Prelude.{◌≡◌, ◌≤◌, ◌<◌, ◌+◌, ◌-◌, ℕ, List, [], ◌∷◌, ◌++◌, length, Bool, false, Option, None}
use Rattle.std.specs.List.{sum_by}
use mathlib.Core.List.{IsPrefix}
use Rattle.counts.specs.Counts.{RoseBy}
use Rattle.line_protocol.specs.Requests.{Asked}
use Rattle.map_model.specs.History.{Entry, own}
use Rattle.map_model.specs.declared.refusal.Refusal.{Refusal}
use Rattle.outside.specs.Connections.{Connection}
use Rattle.session.specs.Transcripts.{Exchange, Transcribes, AreServed, entries_of}
use Rattle.index_server.specs.Connections.{AreSessions}
use Rattle.index_server.specs.declared.end.DoorEnd.{DoorEnd}
use Rattle.index_server.specs.declared.end.DoorEnd.TheVariants.{Done, DoorFault, Lanes}

-- Nothing is known of room: it is told of no history that it fits.
abbrev pub NothingFits : List Entry → Type 0
NothingFits history = ⊥

-- The exchanges are cut, in order, into the sessions of so many connections.
abbrev pub AreMany : ℕ → List Exchange → Type 0
AreMany count pieces = (connections : List Connection) × (length connections ≡ count) × AreSessions connections pieces

-- A lane served so many connections, and never gave up.
abbrev pub ServesCounted : ℕ → Bool → ℕ → ℕ → Option Refusal → Option Refusal → ℕ → List Entry → List Entry → Type 0
ServesCounted lane sole count next last_before last_now many = Transcribes None lane sole NothingFits count next last_before last_now (λ (asked : List Asked). Unit {0}) (AreMany many)

-- The calls that a history gained of this lane are cut, in order, into the sessions of so many connections.
pub record ServesMany (lane count : ℕ) (before now : List Entry) : Type 0 where
  pub pieces : List Exchange
  pub sessions : AreMany count pieces
  pub mine : own lane now ≡ own lane before ++ entries_of pieces
  pub each : AreServed None lane false NothingFits before pieces

-- a worker's lane, and how many connections it served
pub record Work : Type 0 where
  pub lane : ℕ
  pub count : ℕ

-- The lanes' numbers ascend, from a first one to below an end, and each served its connections.
abbrev pub AllServe : ℕ → ℕ → List Work → List Entry → List Entry → Type 0
AllServe from most [] before now = Unit {0}
AllServe from most (w ∷ works) before now = (from ≤ w.lane) × (w.lane < most) × ServesMany w.lane w.count before now × AllServe (w.lane + 1) most works before now

-- So many workers served, and together as many connections as were closed.
abbrev pub WorkersServe : ℕ → ℕ → ℕ → ℕ → ℕ → List Entry → List Entry → Type 0
WorkersServe workers lane most closings closings_now before now =
    (works : List Work) × (length works ≡ workers) × RoseBy (sum_by (λ (w : Work). w.count) works) closings closings_now × (closings_now ≤ closings + sum_by (λ (w : Work). w.count) works) × AllServe lane most works before now

-- So they did however the door ended, unless lanes were wanting.
abbrev pub SharedServe : DoorEnd → ℕ → ℕ → ℕ → ℕ → ℕ → List Entry → List Entry → Type 0
SharedServe Done workers lane most closings closings_now before now = WorkersServe workers lane most closings closings_now before now
SharedServe DoorFault workers lane most closings closings_now before now = WorkersServe workers lane most closings closings_now before now
SharedServe (Lanes fault) workers lane most closings closings_now before now = Unit {0}

-- a lane with its share in the count of connections, and what is known of them
pub record Hand : Type 0 where
  pub lane : ℕ
  pub sole : Bool
  pub origin : ℕ
  pub room : ℕ
  pub seen : List Entry
  pub count : ℕ

-- It is a fork of this index that has seen this history, and served nobody yet.
pub record IsReady (origin most : ℕ) (seen : List Entry) (h : Hand) : Type 0 where
  pub within : h.lane < most
  pub among : h.sole ≡ false
  pub same_origin : h.origin ≡ origin
  pub no_room : h.room ≡ 0
  pub same_seen : h.seen ≡ seen
  pub uncounted : h.count ≡ 0

-- All are ready, and their numbers ascend, from a first one to below an end.
abbrev pub AreReady : ℕ → ℕ → List Entry → ℕ → ℕ → List Hand → Type 0
AreReady origin most seen from upto [] = from ≤ upto
AreReady origin most seen from upto (h ∷ hands) = (from ≤ h.lane) × IsReady origin most seen h × AreReady origin most seen (h.lane + 1) upto hands

-- The lane is the same one, and served as many connections as its share counted.
pub record Worked (old new : Hand) : Type 0 where
  pub same_lane : new.lane ≡ old.lane
  pub same_origin : new.origin ≡ old.origin
  pub same_room : new.room ≡ old.room
  pub begins : IsPrefix old.seen new.seen
  pub more : old.count ≤ new.count
  pub served : old.sole ≡ false → ServesMany old.lane (new.count - old.count) old.seen new.seen

abbrev pub AllWorked : List Hand → List Hand → Type 0
AllWorked [] [] = Unit {0}
AllWorked [] (h ∷ new) = ⊥
AllWorked (g ∷ old) [] = ⊥
AllWorked (g ∷ old) (h ∷ new) = Worked g h × AllWorked old new

-- Each lane served its connections behind this history, and their numbers ascend, from a first one to below an end.
abbrev pub AreDone : ℕ → List Entry → ℕ → ℕ → List Hand → Type 0
AreDone most before from upto [] = from ≤ upto
AreDone most before from upto (h ∷ hands) = (from ≤ h.lane) × (h.lane < most) × ServesMany h.lane h.count before h.seen × AreDone most before (h.lane + 1) upto hands

-- each is of the index of this origin, and makes no forks itself
abbrev pub AreForksOf : ℕ → List Hand → Type 0
AreForksOf origin [] = Unit {0}
AreForksOf origin (h ∷ hands) = (h.origin ≡ origin) × (h.room ≡ 0) × AreForksOf origin hands

-- all have seen this history
abbrev pub HaveSeen : List Entry → List Hand → Type 0
HaveSeen seen [] = Unit {0}
HaveSeen seen (h ∷ hands) = (h.seen ≡ seen) × HaveSeen seen hands
