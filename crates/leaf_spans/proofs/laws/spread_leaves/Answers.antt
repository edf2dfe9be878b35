use Rattle.leaf_spans.proofs.Spreads.{spread_find, spread_joined}
use Rattle.leaf_spans.proofs.laws.spread_leaves.Goals as goal

pub returns-clause-find : goal.returns-clause-find
returns-clause-find t c A m maps are spread key = spread_find A are m maps spread key

pub returns-clause-together : goal.returns-clause-together
returns-clause-together t c A m maps are spread = spread_joined A are m maps spread
