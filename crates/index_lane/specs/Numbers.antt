-- Of which lanes a pass has seen all calls.
use Rattle.std.specs.Prelude.{◌≡◌, ℕ, ◌∷◌, ◌++◌, Some}
use Rattle.std.specs.Prelude as std
use mathlib.Core.Path.{ap}
use mathlib.Core.Option.{some}
use lib.ListN.{get_elem?}
use Rattle.board_rule.specs.declared.view.View.{View}
use Rattle.board_rule.specs.Views.{lanes_of, option_list}

-- its own lane, and those that ended into it
abbrev pub HasAll : View → ℕ → Type 0
HasAll v lane = (i : ℕ) × (get_elem? (lanes_of v) i ≡ some lane)

pub has_own : (v : View) (lane : ℕ) → v.lane ≡ Some lane → HasAll v lane
has_own v lane is = (0, ap (λ (o : std.Option ℕ). get_elem? (option_list o ++ v.ended) 0) is)
