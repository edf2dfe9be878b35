use Rattle.std.proofs.Common.{refl}
use Rattle.anchor_rules.specs.Anchors.{target}
use Rattle.leaf_spans.proofs.Spreads.{spread_with, spread_without}
use Rattle.leaf_spans.proofs.laws.spread_changes.Goals as goal

pub returns-clause-put : goal.returns-clause-put
returns-clause-put t c A m maps new key value are spread change others = spread_with A are m maps spread new (target A key) key value refl change others

pub returns-clause-del : goal.returns-clause-del
returns-clause-del t c A m maps new key are spread change others = spread_without A are m maps spread new (target A key) key refl change others
