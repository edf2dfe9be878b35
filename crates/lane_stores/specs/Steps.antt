-- What each step tells of a seat before and after it.
use Rattle.std.specs.Prelude.{◌≡◌, ◌⊎◌, ℕ, ◌+◌, ◌<◌, ◌≤◌, List, [], ◌∷◌, ◌++◌, true, false}
use Rattle.std.specs.List.{AllByRecursion}
use Rattle.atomic_table.specs.Table.{Step, Me}
use Rattle.map_model.specs.History.{Entry, after}
use Rattle.lane_stores.specs.declared.view.View.{View}
use Rattle.lane_stores.specs.Rule.{Map, IsOf, IsMet}

-- a view that has the map out, and has seen this history
abbrev pub locked : List Entry → View → View
locked log v = record { most = v.most; sole = v.sole; holds = true; next = v.next; room = v.room; seen = log; ended = v.ended; met = [] }

-- a view that gave the map back, and added these entries
abbrev pub unlocked : List Entry → View → View
unlocked entries v = record { most = v.most; sole = v.sole; holds = false; next = v.next; room = v.room; seen = v.seen ++ entries; ended = v.ended; met = [] }

-- The map is out with the seat, which has seen the whole history. It has all calls of the seat's lanes as they were, and nothing new where there is no other seat.
pub record Takes (m n : Me Map View) : Type 0 where
  pub log : List Entry
  pub of : IsOf m.0.most log
  pub met : IsMet log (m.0.ended, m.0.seen)
  pub alone : m.0.sole ≡ true → log ≡ m.0.seen
  pub is : n ≡ (locked log m.0, (0, after log) ∷ m.1)

-- Another lane has the map, and there is another seat.
pub record IsHeld (m : Me Map View) (found : ℕ) (n : Me Map View) : Type 0 where
  pub some : 0 < found
  pub lane : found ≤ m.0.most
  pub same : n ≡ m
  pub among : m.0.sole ≡ true → ⊥

abbrev pub Locked : Step Map → Me Map View → ℕ → Me Map View → Type 0
Locked s m found n = ((found ≡ 0) × Takes m n) ⊎ IsHeld m found n

abbrev pub Unlocked : List Entry → Me Map View → Me Map View → Type 0
Unlocked entries m n = n ≡ (unlocked entries m.0, [])

-- What was joined last was seen, and there are lane numbers for the forks.
pub record Looked (m n : Me Map View) : Type 0 where
  pub same : n ≡ m
  pub of : IsOf m.0.most m.0.seen
  pub met : AllByRecursion (IsMet m.0.seen) m.0.met
  pub room : m.0.next + m.0.room ≤ m.0.most
