use Rattle.std.proofs.Common.{arith, ◌≡◌, ◌∙◌, ◌-◌, [], ◌∷◌, length, refl, subst}
use Rattle.std.specs.List.Sorted.{IsPermutation}
use Rattle.std.specs.Vec.{vec_capacity}
use Rattle.leaf_store.specs.Tag.{tag_of}
use Rattle.leaf_store.proofs.Changes.{seen_gone_key, seen_with, seen_tag, seen_room_for_one, min_left, min_right, added_leaf, added_map}
use Rattle.leaf_store.proofs.Settled.{length-tags}
use Rattle.leaf_store.proofs.Fronts.{front_before}
use Rattle.leaf_store.proofs.leaf.Leaf.insert_new.Goals as goal

pub add-requires-clause-fits : goal.add-requires-clause-fits
add-requires-clause-fits g c =
    let room = min_right (vec_capacity c.self.inside.rows - length c.self.inside.rows.items) c.self.inside.tags.spare (seen_room_for_one _ _ c.self.view_is c.requires.room) in
    omega (arith, room, c.len-place.ensures.few)

pub add-requires-clause-room : goal.add-requires-clause-room
add-requires-clause-room g c = min_right (vec_capacity c.self.inside.rows - length c.self.inside.rows.items) c.self.inside.tags.spare (seen_room_for_one _ _ c.self.view_is c.requires.room)

pub push_reserved-requires : goal.push_reserved-requires
push_reserved-requires g c =
    let room = min_left (vec_capacity c.self.inside.rows - length c.self.inside.rows.items) c.self.inside.tags.spare (seen_room_for_one _ _ c.self.view_is c.requires.room) in
    omega arith

pub invariant_of-self : goal.invariant_of-self
invariant_of-self g c =
    let none = seen_gone_key _ _ c.self.view_is c.self.inside.rows.items refl c.args.key c.requires.absent in
    let is = seen_tag _ _ c.self.view_is c.args.hash c.first_bits.result c.args.key c.requires.hash c.first_bits.ensures in
    let at : c.len-place.result ≡ length c.self.inside.rows.items = c.len-place.ensures.len ∙ length-tags c.self.inside.salt c.self.inside.rows.items c.self.inside.tags.pairs c.self.invariant.0.tags in
    let tag = subst (λ t. IsPermutation ((t, c.len-place.result) ∷ c.self.inside.tags.pairs) c.add.new.self.pairs) is c.add.ensures.pairs in
    let pairs = subst (λ n. IsPermutation ((tag_of c.self.inside.salt c.args.key, n) ∷ c.self.inside.tags.pairs) c.add.new.self.pairs) at tag in
    rw c.push_reserved.ensures.items (added_leaf c.self.inside.salt c.self.inside.rows.items c.self.inside.tags.pairs c.self.inside.order.items c.self.inside.ordered c.self.invariant.0 c.args.key c.args.value c.add.new.self.pairs none pairs, front_before c.self.inside.rows.items ((c.args.key, c.args.value) ∷ []) c.self.inside.order.items c.self.inside.front c.self.invariant.0.places c.self.invariant.0.few c.self.invariant.1)

pub returns-clause-map : goal.returns-clause-map
returns-clause-map g c =
    let none = seen_gone_key _ _ c.self.view_is c.self.inside.rows.items refl c.args.key c.requires.absent in
    seen_with _ _ c.self.view_is _ c.args.key c.args.value (rw c.push_reserved.ensures.items (added_map c.self.inside.salt c.self.inside.rows.items c.self.inside.tags.pairs c.self.inside.order.items c.self.inside.ordered c.self.invariant.0 c.args.key c.args.value none))
