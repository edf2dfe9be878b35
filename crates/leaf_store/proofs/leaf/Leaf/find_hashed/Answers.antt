use Rattle.leaf_store.proofs.Changes.{seen_find, seen_tag, found, absent, tagged, untagged}
use Rattle.leaf_store.proofs.leaf.Leaf.find_hashed.Goals as goal

pub place_of-requires : goal.place_of-requires
place_of-requires g c = rw c.deref.ensures.value (tagged c.self.inside.salt c.self.inside.rows.items c.self.inside.tags.pairs c.self.inside.order.items c.self.inside.ordered c.self.invariant.0 c.first_bits.result)

pub returns-in-Some : goal.returns-in-Some
returns-in-Some g c =
    let h = rw c.deref.ensures.value at c.in-Some.ensures in
    seen_find _ _ c.self.view_is c.args.key.now _ (found c.self.inside.salt c.self.inside.rows.items c.self.inside.tags.pairs c.self.inside.order.items c.self.inside.ordered c.self.invariant.0 c.in-Some.place c.index.result.now c.args.key.now h.0 c.index.ensures h.1)

pub returns-in-None : goal.returns-in-None
returns-in-None g c =
    let each = rw c.deref.ensures.value at c.in-None.ensures in
    let tag = seen_tag _ _ c.self.view_is c.args.hash c.first_bits.result c.args.key.now c.requires c.first_bits.ensures in
    let gone = untagged c.self.inside.salt c.self.inside.rows.items c.self.inside.tags.pairs c.self.inside.order.items c.self.inside.ordered c.self.invariant.0 c.first_bits.result c.args.key.now tag each in
    seen_find _ _ c.self.view_is c.args.key.now _ (absent c.self.inside.salt c.self.inside.rows.items c.self.inside.tags.pairs c.self.inside.order.items c.self.inside.ordered c.self.invariant.0 c.args.key.now gone)
