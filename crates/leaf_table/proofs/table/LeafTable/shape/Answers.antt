use Rattle.std.proofs.Common.{subst}
use Rattle.leaf_table.specs.Facts.{IsWhole}
use Rattle.leaf_table.proofs.Standing.{whole_table}
use Rattle.leaf_table.proofs.table.LeafTable.shape.Goals as goal

pub returns-clause-whole : goal.returns-clause-whole
returns-clause-whole c = subst IsWhole c.self.view_is (whole_table _ _ _ _ c.self.invariant.0)
