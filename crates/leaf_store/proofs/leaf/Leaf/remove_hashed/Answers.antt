use Rattle.std.proofs.Common.{arith, ◌-◌, ◌∙◌, ap, length, sym, subst}
use Rattle.std.specs.List.{swap_remove}
use Rattle.map_model.proofs.Finds.{ascending_sorted}
use Rattle.leaf_store.specs.Rows.{AreTags}
use Rattle.leaf_store.proofs.Settled.{length-tags}
use Rattle.leaf_store.proofs.Changes.{seen_find, seen_without, seen_gone, seen_tag, found, absent, tagged, untagged, taken_tag, taken_leaf, taken_map}
use Rattle.leaf_store.specs.Order.{HasFront}
use Rattle.leaf_store.proofs.leaf.Leaf.remove_hashed.Goals as goal

pub place_of-requires : goal.place_of-requires
place_of-requires g c = rw c.deref.ensures.value (tagged c.self.inside.salt c.self.inside.rows.items c.self.inside.tags.pairs c.self.inside.order.items c.self.inside.ordered c.self.invariant.0 c.first_bits-tag.result)

pub take_tag-requires-clause-tag : goal.take_tag-requires-clause-tag
take_tag-requires-clause-tag g c =
    let h = rw c.deref.ensures.value at c.in_ok-place.ensures in
    let tag = seen_tag _ _ c.self.view_is c.args.hash c.first_bits-tag.result c.args.key.now c.requires c.first_bits-tag.ensures in
    rw c.deref-3.ensures.value (taken_tag c.self.inside.salt c.self.inside.rows.items c.in_ok-place.place c.args.key.now c.first_bits-tag.result tag h.1)

pub returns-in_err-place-clause-map : goal.returns-in_err-place-clause-map
returns-in_err-place-clause-map g c =
    let each = rw c.deref.ensures.value at c.in_err-place.ensures in
    let tag = seen_tag _ _ c.self.view_is c.args.hash c.first_bits-tag.result c.args.key.now c.requires c.first_bits-tag.ensures in
    let none = untagged c.self.inside.salt c.self.inside.rows.items c.self.inside.tags.pairs c.self.inside.order.items c.self.inside.ordered c.self.invariant.0 c.first_bits-tag.result c.args.key.now tag each in
    seen_gone _ _ c.self.view_is c.args.key.now (absent c.self.inside.salt c.self.inside.rows.items c.self.inside.tags.pairs c.self.inside.order.items c.self.inside.ordered c.self.invariant.0 c.args.key.now none) (ascending_sorted c.self.inside.rows.items)

pub returns-in_err-place-clause-value : goal.returns-in_err-place-clause-value
returns-in_err-place-clause-value g c =
    let each = rw c.deref.ensures.value at c.in_err-place.ensures in
    let tag = seen_tag _ _ c.self.view_is c.args.hash c.first_bits-tag.result c.args.key.now c.requires c.first_bits-tag.ensures in
    let none = untagged c.self.inside.salt c.self.inside.rows.items c.self.inside.tags.pairs c.self.inside.order.items c.self.inside.ordered c.self.invariant.0 c.first_bits-tag.result c.args.key.now tag each in
    c.from_residual.ensures ∙ sym (seen_find _ _ c.self.view_is c.args.key.now _ (absent c.self.inside.salt c.self.inside.rows.items c.self.inside.tags.pairs c.self.inside.order.items c.self.inside.ordered c.self.invariant.0 c.args.key.now none))

pub invariant_of-self : goal.invariant_of-self
invariant_of-self g c =
    let x = c.swap_remove-value.result in
    let h = rw c.deref.ensures.value at c.in_ok-place.ensures in
    let tags = subst (λ rows. AreTags c.self.inside.salt (swap_remove rows c.in_ok-place.place x) c.take_tag.new.tags.pairs) c.deref-3.ensures.value (c.take_tag.ensures.tags x) in
    let front = subst (λ rows. HasFront (swap_remove rows c.in_ok-place.place x) c.take_place-self-inside.new.order.items c.take_place-self-inside.result) c.deref-2.ensures.value (c.take_place-self-inside.ensures.front x) in
    rw c.swap_remove-value.ensures.items (taken_leaf c.self.inside.salt c.self.inside.rows.items c.self.inside.tags.pairs c.self.inside.order.items c.self.inside.ordered c.self.invariant.0 c.in_ok-place.place x c.args.key.now h.0 c.swap_remove-value.ensures.value h.1 c.take_tag.new.tags.pairs c.take_place-self-inside.new.order.items (c.len.result - 1) tags c.take_place-self-inside.ensures.places c.take_place-self-inside.ensures.few (let size = length-tags c.self.inside.salt c.self.inside.rows.items c.self.inside.tags.pairs c.self.invariant.0.tags in let lt = h.0 in omega (arith, size, lt, c.len.ensures.len)), front)

pub returns-clause-map : goal.returns-clause-map
returns-clause-map g c =
    let h = rw c.deref.ensures.value at c.in_ok-place.ensures in
    seen_without _ _ c.self.view_is _ c.args.key.now (rw c.swap_remove-value.ensures.items (taken_map c.self.inside.salt c.self.inside.rows.items c.self.inside.tags.pairs c.self.inside.order.items c.self.inside.ordered c.self.invariant.0 c.in_ok-place.place c.swap_remove-value.result c.args.key.now h.0 c.swap_remove-value.ensures.value h.1))

pub returns-clause-value : goal.returns-clause-value
returns-clause-value g c =
    let h = rw c.deref.ensures.value at c.in_ok-place.ensures in
    sym (seen_find _ _ c.self.view_is c.args.key.now _ (found c.self.inside.salt c.self.inside.rows.items c.self.inside.tags.pairs c.self.inside.order.items c.self.inside.ordered c.self.invariant.0 c.in_ok-place.place c.swap_remove-value.result c.args.key.now h.0 c.swap_remove-value.ensures.value h.1))

pub overflow_sub-len : goal.overflow_sub-len
overflow_sub-len g c =
    let h = rw c.deref.ensures.value at c.in_ok-place.ensures in
    let size = length-tags c.self.inside.salt c.self.inside.rows.items c.self.inside.tags.pairs c.self.invariant.0.tags in
    let lt = h.0 in
    omega (arith, size, lt, c.len.ensures.len)

pub take_place-self-inside-requires-clause-few : goal.take_place-self-inside-requires-clause-few
take_place-self-inside-requires-clause-few g c =
    let size = length-tags c.self.inside.salt c.self.inside.rows.items c.self.inside.tags.pairs c.self.invariant.0.tags in
    let few = c.self.invariant.0.few in
    omega (arith, size, few, c.len.ensures.len)

pub take_place-self-inside-requires-clause-in_range : goal.take_place-self-inside-requires-clause-in_range
take_place-self-inside-requires-clause-in_range g c =
    let h = rw c.deref.ensures.value at c.in_ok-place.ensures in
    let size = length-tags c.self.inside.salt c.self.inside.rows.items c.self.inside.tags.pairs c.self.invariant.0.tags in
    let lt = h.0 in
    omega (arith, size, lt, c.len.ensures.len)

pub take_place-self-inside-requires-clause-last : goal.take_place-self-inside-requires-clause-last
take_place-self-inside-requires-clause-last g c =
    let h = rw c.deref.ensures.value at c.in_ok-place.ensures in
    let size = length-tags c.self.inside.salt c.self.inside.rows.items c.self.inside.tags.pairs c.self.invariant.0.tags in
    let rows = ap length c.deref-2.ensures.value in
    let lt = h.0 in
    omega (arith, size, rows, lt, c.len.ensures.len)

pub take_place-self-inside-requires-clause-front : goal.take_place-self-inside-requires-clause-front
take_place-self-inside-requires-clause-front g c = rw c.deref-2.ensures.value c.self.invariant.1
