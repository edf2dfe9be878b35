use Rattle.std.proofs.Common.{arith, ◌∙◌, ◌++◌, ap, subst, length, length-append}
use Rattle.map_model.specs.Maps.{sorted}
use Rattle.leaf_store.specs.Rows.{AreTags}
use Rattle.leaf_store.proofs.Unsorted.{length-sorted}
use Rattle.leaf_store.proofs.Joined.{seam_tags, still_apart, joined_map, joined_leaf}
use Rattle.leaf_store.proofs.Settled.{length-tags, seen_pairs, seen_spare}
use Rattle.leaf_store.proofs.Fronts.{front_before}
use Rattle.leaf_store.proofs.leaf.Leaf.absorb.Goals as goal

pub returns-in_err-reserve-clause-succeeds : goal.returns-in_err-reserve-clause-succeeds
returns-in_err-reserve-clause-succeeds g c = λ room.
    let e = length-sorted c.right.inside.rows.items c.right.invariant.0.keys in
    let v = ap length (seen_pairs _ _ c.right.view_is) in
    absurd (cc (c.in_err-reserve.ensures.succeeds (omega (arith, e, v, room, c.len.ensures))))

pub add_tags-requires-clause-tags : goal.add_tags-requires-clause-tags
add_tags-requires-clause-tags g c = rw (c.deref.ensures.value, c.in_ok-append.ensures.items) (seam_tags c.self.inside.rows.items c.right.inside.rows.items c.self.inside.salt c.self.inside.tags.pairs c.self.invariant.0.tags)

pub add_tags-requires-clause-in_range : goal.add_tags-requires-clause-in_range
add_tags-requires-clause-in_range g c =
    let tags = length-tags c.self.inside.salt c.self.inside.rows.items c.self.inside.tags.pairs c.self.invariant.0.tags in
    let rows = ap length (c.deref.ensures.value ∙ c.in_ok-append.ensures.items) in
    omega (arith, tags, rows, length-append c.self.inside.rows.items c.right.inside.rows.items)

pub add_tags-requires-clause-room : goal.add_tags-requires-clause-room
add_tags-requires-clause-room g c =
    let tags = length-tags c.self.inside.salt c.self.inside.rows.items c.self.inside.tags.pairs c.self.invariant.0.tags in
    let rows = ap length (c.deref.ensures.value ∙ c.in_ok-append.ensures.items) in
    let spare = seen_spare _ _ c.self.view_is in
    omega (arith, tags, rows, length-append c.self.inside.rows.items c.right.inside.rows.items, spare, c.in_ok-reserve.ensures.room, c.len.ensures)

pub invariant_of-self-2 : goal.invariant_of-self-2
invariant_of-self-2 g c =
    let left = c.self.inside.rows.items in
    let right = c.right.inside.rows.items in
    let apart = still_apart (sorted left) (sorted right) c.args.self.now.map c.args.right.now.map (seen_pairs _ _ c.self.view_is ∙ seen_pairs _ _ c.in_ok-reserve.ensures.stays) (seen_pairs _ _ c.right.view_is) c.requires in
    let tags = subst (λ rows. AreTags c.self.inside.salt rows c.add_tags.new.tags.pairs) (c.deref.ensures.value ∙ c.in_ok-append.ensures.items) c.add_tags.ensures.tags in
    rw c.in_ok-append.ensures.items (joined_leaf left right c.self.invariant.0.keys c.right.invariant.0.keys apart c.self.inside.salt c.add_tags.new.tags.pairs c.self.inside.order.items tags c.self.invariant.0.places c.self.invariant.0.few, front_before left right c.self.inside.order.items c.self.inside.front c.self.invariant.0.places c.self.invariant.0.few c.self.invariant.1)

pub returns-clause-joined : goal.returns-clause-joined
returns-clause-joined g c =
    let left = c.self.inside.rows.items in
    let right = c.right.inside.rows.items in
    let left_is = seen_pairs _ _ c.self.view_is ∙ seen_pairs _ _ c.in_ok-reserve.ensures.stays in
    let right_is = seen_pairs _ _ c.right.view_is in
    let apart = still_apart (sorted left) (sorted right) c.args.self.now.map c.args.right.now.map left_is right_is c.requires in
    ap sorted c.in_ok-append.ensures.items ∙ (joined_map left right c.self.invariant.0.keys c.right.invariant.0.keys apart
    ∙ (ap (λ t. sorted (t ++ sorted right)) left_is ∙ ap (λ t. sorted (c.args.self.now.map ++ t)) right_is))
