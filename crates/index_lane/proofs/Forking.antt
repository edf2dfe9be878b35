-- A lane that forked has seen all calls of the lanes of which it had.
use Rattle.std.proofs.Common.{◌≡◌, ℕ, Some, sym, ap, ◌∙◌, subst}
use Rattle.row_words.specs.declared.shape.Shape.{Shape}
use Rattle.board_rule.specs.declared.view.View.{View}
use Rattle.board_rule.specs.Views.{enrolled, kept_half}
use Rattle.worm_index.specs.Lanes.{IsFork, having_drawn}
use Rattle.index_lane.specs.Numbers.{HasAll}
use Rattle.index_lane.specs.Steady.{IsSteady}

pub kept_all : (k : Shape) (lane n : ℕ) (v w u : View) → IsSteady k lane v → IsFork k n v w u → (m : ℕ) → HasAll v m → HasAll w m
kept_all k lane n v w u steady fork m has = subst (λ (z : View). HasAll z m) (sym kept_is) has
  where
    kept_is : w ≡ kept_half (Some n) (enrolled n v)
    kept_is = fork.pass ∙ ap (λ o. kept_half (Some n) (having_drawn o n v)) steady.drawn
