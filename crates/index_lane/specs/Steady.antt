-- What a lane's pass is between two calls.
use Rattle.std.specs.Prelude.{◌≡◌, ◌<◌, ℕ, List, false, None, Some}
use Rattle.std.specs.List.{AllByRecursion, AllByRecursion-prop}
use Rattle.std.specs.Coded.{Coded-set, coded_bool, coded_ℕ, coded_option, le_prop}
use Rattle.map_model.specs.History.{Entry, IsLegal, IsNumbered}
use Rattle.row_words.specs.declared.shape.Shape.{Shape}
use Rattle.board_rule.specs.declared.view.View.{View}
use Rattle.board_rule.specs.Views.{held_at}
use Rattle.worm_index.specs.Idle.{IsIdle}
use Rattle.lane_facts.specs.Props.{legal_prop, numbered_prop, none_prop}

-- all entries are of lanes below an end
abbrev pub AreOfLanes : ℕ → List Entry → Type 0
AreOfLanes most h = AllByRecursion (λ (e : Entry). e.lane < most) h

-- It has this lane and is idle, has drawn no number, and has seen a legal history of numbered calls, all of lanes of the index. Its lane is one of
-- the index's, and below it and at it all numbers are given.
pub record IsSteady (k : Shape) (lane : ℕ) (v : View) : Type 0 where
  pub named : v.lane ≡ Some lane
  pub idle : IsIdle v
  pub drawn : v.drawn ≡ None
  pub above : lane < v.given
  pub within : lane < k.lanes
  pub legal : IsLegal v.seen
  pub numbered : IsNumbered v.seen
  pub lanes : AreOfLanes k.lanes v.seen

idle_prop : (v : View) → IsProp (IsIdle v)
idle_prop v a b = λ i. record {
  free = λ leaf. none_prop (held_at v leaf) (a.free leaf) (b.free leaf) i;
  turn = Coded-set coded_bool v.turn false a.turn b.turn i;
  pin = none_prop v.pin a.pin b.pin i;
}

pub steady_prop : (k : Shape) (lane : ℕ) (v : View) → IsProp (IsSteady k lane v)
steady_prop k lane v a b = λ i. record {
  named = Coded-set (coded_option coded_ℕ) v.lane (Some lane) a.named b.named i;
  idle = idle_prop v a.idle b.idle i;
  drawn = none_prop v.drawn a.drawn b.drawn i;
  above = le_prop a.above b.above i;
  within = le_prop a.within b.within i;
  legal = legal_prop v.seen a.legal b.legal i;
  numbered = numbered_prop v.seen a.numbered b.numbered i;
  lanes = AllByRecursion-prop (λ (e : Entry). e.lane < k.lanes) (λ e. le_prop) v.seen a.lanes b.lanes i;
}
