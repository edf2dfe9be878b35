use Rattle.std.proofs.Common.{arith}
use Rattle.map_model.proofs.Finds.{ascending_sorted}
use Rattle.leaf_store.proofs.Unsorted.{length-sorted, seen_length, seen_ascends}
use Rattle.leaf_store.proofs.leaf.Leaf.len.Goals as goal

pub returns-clause-len : goal.returns-clause-len
returns-clause-len g c = seen_length _ _ c.self.view_is _ (let e = length-sorted c.self.inside.rows.items c.self.invariant.0.keys in omega (arith, e, c.len.ensures))

pub returns-clause-ascending : goal.returns-clause-ascending
returns-clause-ascending g c = seen_ascends _ _ c.self.view_is (ascending_sorted c.self.inside.rows.items)
