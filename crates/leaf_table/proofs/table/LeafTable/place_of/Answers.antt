use Rattle.std.proofs.Common.{◌∙◌, ap}
use Rattle.anchor_rules.specs.Anchors.{target}
use Rattle.leaf_table.specs.Table.{Table}
use Rattle.leaf_table.proofs.Readings.{target_here}
use Rattle.leaf_table.proofs.table.LeafTable.place_of.Goals as goal

pub returns-clause-live : goal.returns-clause-live
returns-clause-live c = target_here _ _ _ _ c.self.invariant.0 _ c.self.view_is c.seek_key.result.leaf c.args.key.now (c.seek_key.ensures.leaf ∙ ap (λ (t : Table). target t.anchors c.args.key.now) c.self.view_is)
