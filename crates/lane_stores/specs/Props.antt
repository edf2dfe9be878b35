-- Facts that a lane keeps have one proof at most.
use Rattle.std.specs.Prelude.{◌<◌, ℕ, List, [], true, false}
use Rattle.std.specs.List.{AllByRecursion-prop}
use Rattle.std.specs.Coded.{Coded, Coded-set, coded×, coded_ℕ, coded_bool, coded_list, le_prop}
use Rattle.atomic_table.specs.Table.{Me}
use Rattle.map_model.specs.History.{Entry}
use Rattle.lane_facts.specs.Props.{legal_prop, numbered_prop}
use Rattle.lane_stores.specs.declared.view.View.{View}
use Rattle.lane_stores.specs.Rule.{Map, IsOf, is_among}
use Rattle.lane_stores.specs.Calls.{IsIdle}

abbrev coded_map : Coded Map
coded_map = coded_list (coded× (coded_list coded_ℕ) (coded_list coded_ℕ))

of_prop : (most : ℕ) (h : List Entry) → IsProp (IsOf most h)
of_prop most h a b = λ i. record {
  legal = legal_prop h a.legal b.legal i;
  numbered = numbered_prop h a.numbered b.numbered i;
  lanes = AllByRecursion-prop (λ (e : Entry). e.lane < most) (λ e. le_prop) h a.lanes b.lanes i;
}

pub idle_prop : (most lane : ℕ) (m : Me Map View) → IsProp (IsIdle most lane m)
idle_prop most lane m a b = λ i. record {
  bare = Coded-set (coded_list (coded× coded_ℕ coded_map)) m.1 [] a.bare b.bare i;
  idle = Coded-set coded_bool m.0.holds false a.idle b.idle i;
  fixed = Coded-set coded_ℕ m.0.most most a.fixed b.fixed i;
  mine = Coded-set coded_bool (is_among m.0.ended lane) true a.mine b.mine i;
  below = le_prop a.below b.below i;
  of = of_prop most m.0.seen a.of b.of i;
}
