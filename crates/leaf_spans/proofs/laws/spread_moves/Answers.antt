use Rattle.leaf_spans.proofs.Halving.{parting_splits, spread_split}
use Rattle.leaf_spans.proofs.Merging.{spread_merge}
use Rattle.leaf_spans.proofs.laws.spread_moves.Goals as goal

pub returns-clause-anchor : goal.returns-clause-anchor
returns-clause-anchor t c A m left right up many dead = parting_splits A m left right up many dead

pub returns-clause-split : goal.returns-clause-split
returns-clause-split t c A m maps new left right spread many dead stay go others = spread_split A m maps new left right spread many dead stay go others

pub returns-clause-merge : goal.returns-clause-merge
returns-clause-merge t c A m maps new left right are spread next taken emptied others = spread_merge A m maps left right are.rises spread next new taken emptied others
