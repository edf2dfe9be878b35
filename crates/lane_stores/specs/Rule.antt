-- The rule: what holds of the word, the map and the views between any two steps.
use Rattle.std.specs.Prelude.{◌≡◌, ℕ, ◌+◌, ◌-◌, ◌<◌, ◌≤◌, List, [], ◌∷◌, ◌++◌, length, Bool, true, false, ◌||◌, ◌==◌, cond, nat_lt, Option, Some, None}
use Rattle.std.specs.List.{AllByRecursion}
use mathlib.Core.Option.{some}
use mathlib.Core.Option as maybe
use mathlib.Core.List.{IsPrefix}
use lib.ListN.{get_elem?}
use Rattle.atomic_table.specs.Table.{State}
use Rattle.map_model.specs.History.{Entry, after, own, IsLegal, IsNumbered}
use Rattle.map_model.specs.Maps.{Pairs}
use Rattle.lane_stores.specs.declared.view.View.{View}

abbrev pub Map : Type 0
Map = Pairs (List ℕ)

-- a legal history of lanes with numbers below an end, in which no call stands twice
pub record IsOf (most : ℕ) (h : List Entry) : Type 0 where
  pub legal : IsLegal h
  pub numbered : IsNumbered h
  pub lanes : AllByRecursion (λ (e : Entry). e.lane < most) h

-- the number is one of these
abbrev pub is_among : List ℕ → ℕ → Bool
is_among [] n = false
is_among (x ∷ xs) n = (x == n) || is_among xs n

abbrev pub Has : List ℕ → ℕ → Type 0
Has xs n = is_among xs n ≡ true

-- what was seen is a beginning of the history, with all calls of these lanes
pub record IsMet (history : List Entry) (x : List ℕ × List Entry) : Type 0 where
  pub begins : IsPrefix x.1 history
  pub all : (n : ℕ) → Has x.0 n → own n history ≡ own n x.1

abbrev pub longer : List Entry → List Entry → List Entry
longer a b = cond (nat_lt (length a) (length b)) b a

abbrev pub greater : ℕ → ℕ → ℕ
greater a b = cond (nat_lt a b) b a

-- the only seat, whose lane is 0
abbrev pub first_view : ℕ → View
first_view most = record { most = most; sole = true; holds = false; next = 1; room = most - 1; seen = []; ended = 0 ∷ []; met = [] }

-- the seat after a fork, and the one of the new lane
abbrev pub forked : View → View
forked v = record { most = v.most; sole = false; holds = v.holds; next = v.next + 1; room = v.room - 1; seen = v.seen; ended = v.ended; met = [] }

abbrev pub child_of : View → View
child_of v = record { most = v.most; sole = false; holds = false; next = v.next + 1; room = 0; seen = v.seen; ended = v.next ∷ []; met = [] }

-- a seat that takes in another, and what is left of that one
abbrev pub both_views : View → View → View
both_views v w = record { most = v.most; sole = v.sole; holds = v.holds; next = greater v.next w.next; room = v.room + w.room; seen = longer v.seen w.seen; ended = v.ended ++ w.ended; met = (v.ended, v.seen) ∷ (w.ended, w.seen) ∷ [] }

abbrev pub spent_view : View
spent_view = record { most = 0; sole = false; holds = false; next = 0; room = 0; seen = []; ended = []; met = [] }

-- what all views have to agree on: how many lane numbers are given, which seat saw all calls of a lane, which one makes forks, and which one has the map
pub record Shared : Type 0 where
  pub given : ℕ
  pub owner : ℕ → ℕ
  pub maker : ℕ
  pub holder : Option ℕ

-- what a view knows is so
pub record Knows (most : ℕ) (log : List Entry) (x : Shared) (count j : ℕ) (v : View) : Type 0 where
  pub sees : IsMet log (v.ended, v.seen)
  pub owns : (n : ℕ) → Has v.ended n → (x.owner n ≡ j) × (n < x.given) × (v.most ≡ most)
  pub next : v.next ≤ x.given
  pub makes : 0 < v.room → (j ≡ x.maker) × (v.next ≡ x.given) × (x.given + v.room ≤ most)
  pub holding : v.holds ≡ true → (x.holder ≡ Some j) × (v.seen ≡ log)
  pub alone : v.sole ≡ true → (count ≡ 1) × (v.seen ≡ log)
  pub met : AllByRecursion (IsMet v.seen) v.met

-- the word is 0 and the map is in its place, or the word names the lane of the seat that has it
abbrev pub IsPlaced : ℕ → List ℕ → List (maybe.Option Map) → List View → List Entry → Option ℕ → Type 0
IsPlaced most words homes views log None = (words ≡ 0 ∷ []) × (homes ≡ some (after log) ∷ [])
IsPlaced most words homes views log (Some j) = (word : ℕ) × (v : View) × (words ≡ word ∷ []) × (0 < word) × (word ≤ most) × (homes ≡ maybe.none ∷ []) × (get_elem? views j ≡ some v) × (v.holds ≡ true)

pub record Kept (most : ℕ) (s : State Map View) : Type 0 where
  pub log : List Entry
  pub shared : Shared
  pub of : IsOf shared.given log
  pub within : shared.given ≤ most
  pub placed : IsPlaced most s.words s.homes s.views log shared.holder
  pub knows : (j : ℕ) (v : View) → get_elem? s.views j ≡ some v → Knows most log shared (length s.views) j v
