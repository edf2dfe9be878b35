use Rattle.std.proofs.Common.{◌≡◌, ◌⊎◌, ap, inl, inr, sym}
use Rattle.std.specs.Vec.{vec_capacity}
use Rattle.leaf_store.proofs.Changes.{seen_find, seen_tag, found, absent, tagged, untagged, keys_set, written_leaf, written_view}
use Rattle.leaf_store.proofs.Fronts.{front_keys}
use Rattle.leaf_store.proofs.leaf.Leaf.find_mut.Goals as goal

-- two answers that lend under one name, and end as the same at each value
lent_as : {N A B C : Type 0} (name : N) (f h : A → B) → ((w : A) → f w ≡ h w) → ◌≡◌ {A = (N × (A → B)) ⊎ C} (inl (name, f)) (inl (name, h))
lent_as name f h each = λ t. inl (name, λ w. each w t)

pub place_of-requires : goal.place_of-requires
place_of-requires g c = rw c.deref.ensures.value (tagged c.self.inside.salt c.self.inside.rows.items c.self.inside.tags.pairs c.self.inside.order.items c.self.inside.ordered c.self.invariant.0 c.first_bits.result)

pub invariant_of-self-lent : goal.invariant_of-self-lent
invariant_of-self-lent g c = λ w.
    let h = rw c.deref.ensures.value at c.in-Some.ensures in
    (written_leaf c.self.inside.salt c.self.inside.rows.items c.self.inside.tags.pairs c.self.inside.order.items c.self.inside.ordered c.self.invariant.0 c.in-Some.place c.index_mut-row.result.now c.args.key.now h.0 c.index_mut-row.ensures.value h.1 w, front_keys c.self.inside.rows.items _ c.self.inside.order.items c.self.inside.front (keys_set c.self.inside.rows.items c.in-Some.place (c.index_mut-row.result.now.0, w) c.index_mut-row.result.now h.0 (sym (ap (λ p. p.0) c.index_mut-row.ensures.value))) c.self.invariant.1)

pub returns-in-Some : goal.returns-in-Some
returns-in-Some g c =
    let h = rw c.deref.ensures.value at c.in-Some.ensures in
    (lent_as _ _ _ (λ w. written_view c.self.inside.salt c.self.inside.rows.items c.self.inside.tags.pairs c.self.inside.order.items c.self.inside.ordered c.self.invariant.0 c.in-Some.place c.index_mut-row.result.now c.args.key.now h.0 c.index_mut-row.ensures.value h.1 c.args.self.now (vec_capacity c.self.inside.rows) c.self.inside.tags.spare c.self.view_is w), record { lends = tt; value = seen_find _ _ c.self.view_is c.args.key.now _ (found c.self.inside.salt c.self.inside.rows.items c.self.inside.tags.pairs c.self.inside.order.items c.self.inside.ordered c.self.invariant.0 c.in-Some.place c.index_mut-row.result.now c.args.key.now h.0 c.index_mut-row.ensures.value h.1) })

pub returns-in-None : goal.returns-in-None
returns-in-None g c =
    let each = rw c.deref.ensures.value at c.in-None.ensures in
    let tag = seen_tag _ _ c.self.view_is c.args.hash c.first_bits.result c.args.key.now c.requires c.first_bits.ensures in
    let gone = untagged c.self.inside.salt c.self.inside.rows.items c.self.inside.tags.pairs c.self.inside.order.items c.self.inside.ordered c.self.invariant.0 c.first_bits.result c.args.key.now tag each in
    (ap inr c.self.view_is, record { lends = tt; value = seen_find _ _ c.self.view_is c.args.key.now _ (absent c.self.inside.salt c.self.inside.rows.items c.self.inside.tags.pairs c.self.inside.order.items c.self.inside.ordered c.self.invariant.0 c.args.key.now gone) })
