use Rattle.std.proofs.Common.{arith, ◌≡◌, ◌∙◌, ◌+◌, ◌-◌, ◌/◌, true, refl, sym, ap, subst, length, take, drop, length-drop}
use Rattle.map_model.specs.Maps.{sorted}
use Rattle.leaf_store.specs.Leaf.{LeafMap}
use Rattle.leaf_store.specs.Rows.{AreTags}
use Rattle.leaf_store.proofs.Unsorted.{sorted_nothing, sorted_ascending}
use Rattle.leaf_store.proofs.Halves.{none_listed, left_leaf, right_leaf, left_map, right_map}
use Rattle.leaf_store.proofs.Parted.{left_tags, right_tags}
use Rattle.leaf_store.proofs.Settled.{length-tags, no_tags, settled_rows, seen_pairs, seen_spare}
use Rattle.leaf_store.proofs.Fronts.{front_none, front_empty}
use Rattle.leaf_store.proofs.leaf.Leaf.split_front.Goals as goal

pub split_off-requires-clause-empty : goal.split_off-requires-clause-empty
split_off-requires-clause-empty g c = no_tags c.left.inside.salt c.left.inside.rows.items c.left.inside.tags.pairs c.left.invariant.0.tags (sorted_nothing c.left.inside.rows.items c.left.invariant.0.keys (seen_pairs _ _ c.left.view_is ∙ c.requires.empty))

pub split_off-requires-clause-room : goal.split_off-requires-clause-room
split_off-requires-clause-room g c =
    let s = settled_rows _ _ c.self.view_is c.self.inside.rows.items refl refl c.arrange_rows.ensures.keys _ c.arrange_rows.ensures.map in
    let size = ap length s.0 in
    let count = length-tags c.self.inside.salt (drop (c.len.result - c.len-2.result / 2) c.self.inside.rows.items) _ (right_tags c.self.inside.salt c.self.inside.rows.items c.self.inside.tags.pairs c.self.invariant.0.tags (c.len.result - c.len-2.result / 2)) in
    let spare = seen_spare _ _ c.left.view_is in
    let room = c.requires.room in
    omega (arith, size, count, length-drop (c.len.result - c.len-2.result / 2) c.self.inside.rows.items, spare, room, c.len.ensures, c.len-2.ensures)

pub move_head-requires-clause-empty : goal.move_head-requires-clause-empty
move_head-requires-clause-empty g c = sorted_nothing c.left.inside.rows.items c.left.invariant.0.keys (seen_pairs _ _ c.left.view_is ∙ c.requires.empty)

pub move_head-requires-clause-room : goal.move_head-requires-clause-room
move_head-requires-clause-room g c =
    let s = settled_rows _ _ c.self.view_is c.self.inside.rows.items refl refl c.arrange_rows.ensures.keys _ c.arrange_rows.ensures.map in
    let size = ap length s.0 in
    let spare = seen_spare _ _ c.left.view_is in
    let room = c.requires.room in
    omega (arith, size, spare, room, c.len.ensures, c.len-2.ensures)

pub invariant_of-self : goal.invariant_of-self
invariant_of-self g c =
    let s = settled_rows _ _ c.self.view_is c.self.inside.rows.items refl refl c.arrange_rows.ensures.keys _ c.arrange_rows.ensures.map in
    let moved = right_tags c.self.inside.salt c.self.inside.rows.items c.self.inside.tags.pairs c.self.invariant.0.tags (c.len.result - c.len-2.result / 2) in
    let tags : AreTags c.self.inside.salt (drop (c.len.result - c.len-2.result / 2) c.self.inside.rows.items) c.swap.new.x.pairs = subst (AreTags c.self.inside.salt (drop (c.len.result - c.len-2.result / 2) c.self.inside.rows.items)) (sym (ap (λ t. t.pairs) c.swap.ensures.x_after ∙ c.split_off.ensures.go)) moved in
    rw c.move_head.ensures.stay (right_leaf c.self.inside.rows.items s.1 (c.len.result - c.len-2.result / 2) c.self.invariant.0.keys c.self.inside.salt c.swap.new.x.pairs tags c.clear.new.self.items c.clear.ensures.items c.self.inside.ordered, front_none _ c.clear.new.self.items)

pub invariant_of-left : goal.invariant_of-left
invariant_of-left g c =
    let s = settled_rows _ _ c.self.view_is c.self.inside.rows.items refl refl c.arrange_rows.ensures.keys _ c.arrange_rows.ensures.map in
    let same : c.left.inside.salt ≡ c.self.inside.salt = ap (λ (l : LeafMap g.row.V.Denot). l.salt) c.left.view_is ∙ (c.requires.salt ∙ sym (ap (λ (l : LeafMap g.row.V.Denot). l.salt) c.self.view_is ∙ c.arrange_rows.ensures.salt)) in
    let stayed = left_tags c.self.inside.salt c.self.inside.rows.items c.self.inside.tags.pairs c.self.invariant.0.tags (c.len.result - c.len-2.result / 2) in
    let tags : AreTags c.self.inside.salt (take (c.len.result - c.len-2.result / 2) c.self.inside.rows.items) c.swap.new.y.pairs = subst (AreTags c.self.inside.salt (take (c.len.result - c.len-2.result / 2) c.self.inside.rows.items)) (sym (ap (λ t. t.pairs) c.swap.ensures.y_after ∙ c.split_off.ensures.stay)) stayed in
    rw c.move_head.ensures.go (left_leaf c.self.inside.rows.items s.1 (c.len.result - c.len-2.result / 2) c.self.invariant.0.keys c.left.inside.salt c.swap.new.y.pairs (subst (λ salt. AreTags salt (take (c.len.result - c.len-2.result / 2) c.self.inside.rows.items) c.swap.new.y.pairs) (sym same) tags) c.left.inside.order.items (none_listed c.left.inside.rows.items c.left.inside.order.items (sorted_nothing c.left.inside.rows.items c.left.invariant.0.keys (seen_pairs _ _ c.left.view_is ∙ c.requires.empty)) c.left.invariant.0.few) true, front_empty c.left.inside.rows.items _ c.left.inside.order.items c.left.inside.front (none_listed c.left.inside.rows.items c.left.inside.order.items (sorted_nothing c.left.inside.rows.items c.left.invariant.0.keys (seen_pairs _ _ c.left.view_is ∙ c.requires.empty)) c.left.invariant.0.few) c.left.invariant.1)

pub returns-clause-stay : goal.returns-clause-stay
returns-clause-stay g c =
    let s = settled_rows _ _ c.self.view_is c.self.inside.rows.items refl refl c.arrange_rows.ensures.keys _ c.arrange_rows.ensures.map in
    let size = ap length s.0 in
    let half : c.len.result - c.len-2.result / 2 ≡ (length c.args.self.now.map + 1) / 2 = omega (arith, size, c.len.ensures, c.len-2.ensures) in
    ap sorted c.move_head.ensures.stay ∙ (right_map c.self.inside.rows.items s.1 (c.len.result - c.len-2.result / 2)
    ∙ (ap (drop (c.len.result - c.len-2.result / 2)) (sorted_ascending c.self.inside.rows.items s.1 ∙ s.0) ∙ ap (λ n. drop n c.args.self.now.map) half))

pub returns-clause-go : goal.returns-clause-go
returns-clause-go g c =
    let s = settled_rows _ _ c.self.view_is c.self.inside.rows.items refl refl c.arrange_rows.ensures.keys _ c.arrange_rows.ensures.map in
    let size = ap length s.0 in
    let half : c.len.result - c.len-2.result / 2 ≡ (length c.args.self.now.map + 1) / 2 = omega (arith, size, c.len.ensures, c.len-2.ensures) in
    ap sorted c.move_head.ensures.go ∙ (left_map c.self.inside.rows.items s.1 (c.len.result - c.len-2.result / 2)
    ∙ (ap (take (c.len.result - c.len-2.result / 2)) (sorted_ascending c.self.inside.rows.items s.1 ∙ s.0) ∙ ap (λ n. take n c.args.self.now.map) half))
