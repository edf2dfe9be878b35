use Rattle.std.proofs.Common.{arith, ◌≡◌, ◌∙◌, ◌+◌, ◌-◌, ◌/◌, true, refl, ap, subst, length, take, drop, length-take}
use Rattle.map_model.specs.Maps.{sorted}
use Rattle.leaf_store.specs.Rows.{AreTags}
use Rattle.leaf_store.proofs.Unsorted.{sorted_nothing, sorted_ascending}
use Rattle.leaf_store.proofs.Halves.{none_listed, left_leaf, right_leaf, left_map, right_map}
use Rattle.leaf_store.proofs.Settled.{no_tags, settled_rows, seen_pairs, seen_spare}
use Rattle.leaf_store.proofs.Fronts.{front_none, front_empty}
use Rattle.leaf_store.proofs.leaf.Leaf.halve.Goals as goal

pub move_tail-requires-clause-empty : goal.move_tail-requires-clause-empty
move_tail-requires-clause-empty g c = sorted_nothing c.right.inside.rows.items c.right.invariant.0.keys (seen_pairs _ _ c.right.view_is ∙ c.requires.empty)

pub move_tail-requires-clause-room : goal.move_tail-requires-clause-room
move_tail-requires-clause-room g c =
    let s = settled_rows _ _ c.self.view_is c.self.inside.rows.items refl refl c.arrange_rows.ensures.keys _ c.arrange_rows.ensures.map in
    let size = ap length s.0 in
    let spare = seen_spare _ _ c.right.view_is in
    let room = c.requires.room in
    omega (arith, size, spare, room, c.len.ensures, c.len-2.ensures)

pub cut_tags-requires-clause-tags : goal.cut_tags-requires-clause-tags
cut_tags-requires-clause-tags g c = rw c.deref.ensures.value c.self.invariant.0.tags

pub cut_tags-requires-clause-empty : goal.cut_tags-requires-clause-empty
cut_tags-requires-clause-empty g c = no_tags c.right.inside.salt c.right.inside.rows.items c.right.inside.tags.pairs c.right.invariant.0.tags (sorted_nothing c.right.inside.rows.items c.right.invariant.0.keys (seen_pairs _ _ c.right.view_is ∙ c.requires.empty))

pub cut_tags-requires-clause-room : goal.cut_tags-requires-clause-room
cut_tags-requires-clause-room g c =
    let s = settled_rows _ _ c.self.view_is c.self.inside.rows.items refl refl c.arrange_rows.ensures.keys _ c.arrange_rows.ensures.map in
    let size = ap length s.0 in
    let spare = seen_spare _ _ c.right.view_is in
    let room = c.requires.room in
    let rows = ap length c.deref.ensures.value in
    omega (arith, size, spare, room, rows, c.len.ensures, c.len-2.ensures)

pub invariant_of-self : goal.invariant_of-self
invariant_of-self g c =
    let s = settled_rows _ _ c.self.view_is c.self.inside.rows.items refl refl c.arrange_rows.ensures.keys _ c.arrange_rows.ensures.map in
    let tags = subst (λ rows. AreTags c.self.inside.salt (take (c.len.result - c.len-2.result / 2) rows) c.cut_tags.new.tags.pairs) c.deref.ensures.value c.cut_tags.ensures.stay in
    rw c.move_tail.ensures.stay (left_leaf c.self.inside.rows.items s.1 (c.len.result - c.len-2.result / 2) c.self.invariant.0.keys c.self.inside.salt c.cut_tags.new.tags.pairs tags c.clear.new.self.items c.clear.ensures.items c.self.inside.ordered, front_none _ c.clear.new.self.items)

pub invariant_of-right : goal.invariant_of-right
invariant_of-right g c =
    let s = settled_rows _ _ c.self.view_is c.self.inside.rows.items refl refl c.arrange_rows.ensures.keys _ c.arrange_rows.ensures.map in
    let tags = subst (λ rows. AreTags c.right.inside.salt (drop (c.len.result - c.len-2.result / 2) rows) c.cut_tags.new.right.pairs) c.deref.ensures.value c.cut_tags.ensures.go in
    rw c.move_tail.ensures.go (right_leaf c.self.inside.rows.items s.1 (c.len.result - c.len-2.result / 2) c.self.invariant.0.keys c.right.inside.salt c.cut_tags.new.right.pairs tags c.right.inside.order.items (none_listed c.right.inside.rows.items c.right.inside.order.items (sorted_nothing c.right.inside.rows.items c.right.invariant.0.keys (seen_pairs _ _ c.right.view_is ∙ c.requires.empty)) c.right.invariant.0.few) true, front_empty c.right.inside.rows.items _ c.right.inside.order.items c.right.inside.front (none_listed c.right.inside.rows.items c.right.inside.order.items (sorted_nothing c.right.inside.rows.items c.right.invariant.0.keys (seen_pairs _ _ c.right.view_is ∙ c.requires.empty)) c.right.invariant.0.few) c.right.invariant.1)

pub returns-clause-stay : goal.returns-clause-stay
returns-clause-stay g c =
    let s = settled_rows _ _ c.self.view_is c.self.inside.rows.items refl refl c.arrange_rows.ensures.keys _ c.arrange_rows.ensures.map in
    let size = ap length s.0 in
    let half : c.len.result - c.len-2.result / 2 ≡ (length c.args.self.now.map + 1) / 2 = omega (arith, size, c.len.ensures, c.len-2.ensures) in
    ap sorted c.move_tail.ensures.stay ∙ (left_map c.self.inside.rows.items s.1 (c.len.result - c.len-2.result / 2)
    ∙ (ap (take (c.len.result - c.len-2.result / 2)) (sorted_ascending c.self.inside.rows.items s.1 ∙ s.0) ∙ ap (λ n. take n c.args.self.now.map) half))

pub returns-clause-go : goal.returns-clause-go
returns-clause-go g c =
    let s = settled_rows _ _ c.self.view_is c.self.inside.rows.items refl refl c.arrange_rows.ensures.keys _ c.arrange_rows.ensures.map in
    let size = ap length s.0 in
    let half : c.len.result - c.len-2.result / 2 ≡ (length c.args.self.now.map + 1) / 2 = omega (arith, size, c.len.ensures, c.len-2.ensures) in
    ap sorted c.move_tail.ensures.go ∙ (right_map c.self.inside.rows.items s.1 (c.len.result - c.len-2.result / 2)
    ∙ (ap (drop (c.len.result - c.len-2.result / 2)) (sorted_ascending c.self.inside.rows.items s.1 ∙ s.0) ∙ ap (λ n. drop n c.args.self.now.map) half))

pub returns-clause-spare : goal.returns-clause-spare
returns-clause-spare g c =
    let stay = ap length c.move_tail.ensures.stay ∙ length-take (c.len.result - c.len-2.result / 2) c.self.inside.rows.items in
    let spare = seen_spare _ _ c.self.view_is in
    omega (arith, stay, spare, c.arrange_rows.ensures.spare, c.move_tail.ensures.from_capacity, c.cut_tags.ensures.spare)
