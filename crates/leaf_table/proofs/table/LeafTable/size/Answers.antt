use Rattle.std.proofs.Common.{◌∙◌, ap, length, arith}
use Rattle.leaf_store.specs.Leaf.{LeafMap}
use Rattle.leaf_table.proofs.Readings.{live_place, size_read}
use Rattle.leaf_table.proofs.table.LeafTable.size.Goals as goal

pub index-requires : goal.index-requires
index-requires c = let h = live_place _ _ _ _ c.self.invariant.0 _ c.self.view_is c.args.leaf c.requires in omega (arith, h)

pub returns : goal.returns
returns c =
    let h = live_place _ _ _ _ c.self.invariant.0 _ c.self.view_is c.args.leaf c.requires in
    c.len.ensures.len ∙ (ap (λ (l : LeafMap _). length l.map) c.index.ensures ∙ size_read _ _ _ _ c.self.invariant.0 _ c.self.view_is c.args.leaf _ h)
