use Rattle.std.proofs.Common.{◌≡◌, ◌∙◌, ℕ, List, length, true, refl, sym, ap, subst, arith}
use Rattle.std.specs.Prelude.{slice_set}
use Rattle.std.proofs.lemmas.List.{length-set}
use Rattle.anchor_rules.specs.Anchors.{Anchors, has_leaf}
use Rattle.leaf_store.specs.Leaf.{LeafMap}
use Rattle.row_words.specs.VecRows.{shape_of, words_of}
use Rattle.row_words.specs.declared.shape.Shape.{Shape}
use Rattle.leaf_table.specs.Facts.{IsSplitFault}
use Rattle.leaf_table.specs.Leaves.{HaveSalt}
use Rattle.leaf_table.specs.Table.{size_at}
use Rattle.leaf_table.proofs.LiveLeaves.{live_moved, live_split}
use Rattle.meta_trie.proofs.OnlyOne.{stands_only}
use Rattle.leaf_table.proofs.Readings.{live_place, size_read}
use Rattle.leaf_table.proofs.Written.{on_err, if_err, moved, moved_split, room_moved, free_next, split_told, full_told, same_written, parts, halved, lacks_items, lacks_leaves}
use Rattle.leaf_table.proofs.table.LeafTable.split.Goals as goal

pub returns-in_err-right-clause-fault : goal.returns-in_err-right-clause-fault
returns-in_err-right-clause-fault c = if_err c.from_residual.result _ (IsSplitFault c.args.self.now c.args.leaf) c.from_residual.ensures.1 (lacks_leaves _ _ _ _ c.self.invariant.0 _ c.self.view_is c.args.leaf _ (c.in_err-right.ensures.full _ c.self.invariant.0.stands))

pub free_leaf_from-requires-clause-live : goal.free_leaf_from-requires-clause-live
free_leaf_from-requires-clause-live c A s leaf lt = subst (λ (B : Anchors). has_leaf B leaf ≡ true) (stands_only _ _ _ A c.self.invariant.0.stands s) (c.self.invariant.1 leaf lt)

pub overflow_add-self : goal.overflow_add-self
overflow_add-self c =
    let range = (c.in_ok-right.ensures.ok _ c.self.invariant.0.stands).in_range in
    let most = c.self.invariant.0.ranges.leaves.1 in
    omega (arith, range, most)

pub index_mut-requires : goal.index_mut-requires
index_mut-requires c = let lt = live_place _ _ _ _ c.self.invariant.0 _ c.self.view_is c.args.leaf c.requires.live in omega (arith, lt)

pub part_of-requires : goal.part_of-requires
part_of-requires c =
    let lt = live_place _ _ _ _ c.self.invariant.0 _ c.self.view_is c.args.leaf c.requires.live in
    let n : length c.index_mut.result.now.map ≡ size_at c.args.self.now c.args.leaf = ap (λ (l : LeafMap (List ℕ)). length l.map) c.index_mut.ensures.value ∙ size_read _ _ _ _ c.self.invariant.0 _ c.self.view_is c.args.leaf _ lt in
    omega (arith, n, c.requires.two)

pub invariant_of-self-in_err-parting : goal.invariant_of-self-in_err-parting
invariant_of-self-in_err-parting c =
    let lt = live_place _ _ _ _ c.self.invariant.0 _ c.self.view_is c.args.leaf c.requires.live in
    ((moved _ _ _ _ _ _ _ c.free_leaf_from.ensures.shape c.free_leaf_from.ensures.words (same_written _ _ _ _ c.self.invariant.0 _ c.self.view_is c.args.leaf c.part_of.new.leaf c.index_mut.result.now lt c.index_mut.ensures.value c.part_of.ensures.salt c.part_of.ensures.map)).whole, live_moved _ _ _ _ c.free_leaf_from.ensures.shape c.self.inside.full_below c.free_leaf_from.ensures.words c.self.invariant.1, room_moved _ _ _ _ c.free_leaf_from.ensures.shape refl c.self.invariant.2)

pub returns-in_err-parting-clause-refused : goal.returns-in_err-parting-clause-refused
returns-in_err-parting-clause-refused c =
    let lt = live_place _ _ _ _ c.self.invariant.0 _ c.self.view_is c.args.leaf c.requires.live in
    on_err c.from_residual-in_err-parting.result (moved _ _ _ _ _ _ _ c.free_leaf_from.ensures.shape c.free_leaf_from.ensures.words (same_written _ _ _ _ c.self.invariant.0 _ c.self.view_is c.args.leaf c.part_of.new.leaf c.index_mut.result.now lt c.index_mut.ensures.value c.part_of.ensures.salt c.part_of.ensures.map)).is

pub add_anchor-requires-clause-table : goal.add_anchor-requires-clause-table
add_anchor-requires-clause-table c =
    let lt = live_place _ _ _ _ c.self.invariant.0 _ c.self.view_is c.args.leaf c.requires.live in
    let n : length c.index_mut.result.now.map ≡ size_at c.args.self.now c.args.leaf = ap (λ (l : LeafMap (List ℕ)). length l.map) c.index_mut.ensures.value ∙ size_read _ _ _ _ c.self.invariant.0 _ c.self.view_is c.args.leaf _ lt in
    moved_split _ _ _ _ c.args.leaf c.in_ok-right.right c.in_ok-parting.parting.anchor c.free_leaf_from.ensures.shape c.free_leaf_from.ensures.words (parts _ _ _ _ c.self.invariant.0 _ c.self.view_is c.args.leaf c.part_of.new.leaf c.index_mut.result.now lt c.index_mut.ensures.value c.part_of.ensures.salt c.in_ok-right.right c.in_ok-parting.parting.anchor (omega (arith, n, c.requires.two)) (c.in_ok-right.ensures.ok _ c.self.invariant.0.stands) c.in_ok-parting.ensures.anchor)

pub halve-requires-clause-left : goal.halve-requires-clause-left
halve-requires-clause-left c =
    let lt = live_place _ _ _ _ c.self.invariant.0 _ c.self.view_is c.args.leaf c.requires.live in
    let n = length-set c.self.inside.leaves.items c.args.leaf c.part_of.new.leaf in
    omega (arith, lt, n)

pub halve-requires-clause-right : goal.halve-requires-clause-right
halve-requires-clause-right c =
    let next = free_next _ _ _ _ c.self.invariant.0 c.in_ok-right.right (c.in_ok-right.ensures.ok _ c.self.invariant.0.stands) in
    let n = length-set c.self.inside.leaves.items c.args.leaf c.part_of.new.leaf in
    omega (arith, next, n)

pub halve-requires-clause-salted : goal.halve-requires-clause-salted
halve-requires-clause-salted c =
    let lt = live_place _ _ _ _ c.self.invariant.0 _ c.self.view_is c.args.leaf c.requires.live in
    let room : c.in_ok-parting.parting.room.salt ≡ (shape_of c.self.inside.rows).salt = c.in_ok-parting.ensures.salted ∙ ap (λ (k : Shape). k.salt) (c.layout-salt.ensures ∙ c.free_leaf_from.ensures.shape) in
    subst (HaveSalt (slice_set c.self.inside.leaves.items c.args.leaf c.part_of.new.leaf)) (sym room) (same_written _ _ _ _ c.self.invariant.0 _ c.self.view_is c.args.leaf c.part_of.new.leaf c.index_mut.result.now lt c.index_mut.ensures.value c.part_of.ensures.salt c.part_of.ensures.map).whole.salts

pub invariant_of-self-in_err-add_anchor : goal.invariant_of-self-in_err-add_anchor
invariant_of-self-in_err-add_anchor c =
    let lt = live_place _ _ _ _ c.self.invariant.0 _ c.self.view_is c.args.leaf c.requires.live in
    ((moved _ _ _ _ _ _ _ (c.add_anchor.ensures.shape ∙ c.free_leaf_from.ensures.shape) (c.in_err-add_anchor.ensures.unchanged ∙ c.free_leaf_from.ensures.words) (same_written _ _ _ _ c.self.invariant.0 _ c.self.view_is c.args.leaf c.part_of.new.leaf c.index_mut.result.now lt c.index_mut.ensures.value c.part_of.ensures.salt c.part_of.ensures.map)).whole, live_moved _ _ _ _ (c.add_anchor.ensures.shape ∙ c.free_leaf_from.ensures.shape) c.self.inside.full_below (c.in_err-add_anchor.ensures.unchanged ∙ c.free_leaf_from.ensures.words) c.self.invariant.1, room_moved _ _ _ _ (c.add_anchor.ensures.shape ∙ c.free_leaf_from.ensures.shape) refl c.self.invariant.2)

pub returns-in_err-add_anchor-clause-refused : goal.returns-in_err-add_anchor-clause-refused
returns-in_err-add_anchor-clause-refused c =
    let lt = live_place _ _ _ _ c.self.invariant.0 _ c.self.view_is c.args.leaf c.requires.live in
    on_err c.from_residual-in_err-add_anchor.result (moved _ _ _ _ _ _ _ (c.add_anchor.ensures.shape ∙ c.free_leaf_from.ensures.shape) (c.in_err-add_anchor.ensures.unchanged ∙ c.free_leaf_from.ensures.words) (same_written _ _ _ _ c.self.invariant.0 _ c.self.view_is c.args.leaf c.part_of.new.leaf c.index_mut.result.now lt c.index_mut.ensures.value c.part_of.ensures.salt c.part_of.ensures.map)).is

pub returns-in_err-add_anchor-clause-fault : goal.returns-in_err-add_anchor-clause-fault
returns-in_err-add_anchor-clause-fault c =
    let lt = live_place _ _ _ _ c.self.invariant.0 _ c.self.view_is c.args.leaf c.requires.live in
    let full = full_told _ _ _ _ c.args.leaf c.in_ok-parting.parting.anchor _ c.free_leaf_from.ensures.shape c.free_leaf_from.ensures.words c.in_err-add_anchor.ensures.full in
    if_err c.from_residual-in_err-add_anchor.result _ (IsSplitFault c.args.self.now c.args.leaf) c.from_residual-in_err-add_anchor.ensures.1
    (lacks_items _ _ _ _ c.self.invariant.0 _ c.self.view_is c.args.leaf c.part_of.new.leaf c.index_mut.result.now lt c.index_mut.ensures.value c.part_of.ensures.salt c.in_ok-right.right c.in_ok-parting.parting.anchor _ (c.in_ok-right.ensures.ok _ c.self.invariant.0.stands) c.in_ok-parting.ensures.anchor (full _ c.self.invariant.0.stands))

pub invariant_of-self-2 : goal.invariant_of-self-2
invariant_of-self-2 c =
    let lt = live_place _ _ _ _ c.self.invariant.0 _ c.self.view_is c.args.leaf c.requires.live in
    let n : length c.index_mut.result.now.map ≡ size_at c.args.self.now c.args.leaf = ap (λ (l : LeafMap (List ℕ)). length l.map) c.index_mut.ensures.value ∙ size_read _ _ _ _ c.self.invariant.0 _ c.self.view_is c.args.leaf _ lt in
    let room : c.in_ok-parting.parting.room.salt ≡ (shape_of c.self.inside.rows).salt = c.in_ok-parting.ensures.salted ∙ ap (λ (k : Shape). k.salt) (c.layout-salt.ensures ∙ c.free_leaf_from.ensures.shape) in
    let added = split_told _ _ _ _ (words_of c.add_anchor.new.rows) c.args.leaf c.in_ok-right.right c.in_ok-parting.parting.anchor c.free_leaf_from.ensures.shape c.free_leaf_from.ensures.words c.in_ok-add_anchor.ensures.ok in (
      (halved _ _ _ _ c.self.invariant.0 _ c.self.view_is c.args.leaf c.part_of.new.leaf c.index_mut.result.now lt c.index_mut.ensures.value c.part_of.ensures.salt (shape_of c.add_anchor.new.rows) (words_of c.add_anchor.new.rows) c.halve.new.leaves.items c.in_ok-right.right c.in_ok-parting.parting.anchor
          (c.add_anchor.ensures.shape ∙ c.free_leaf_from.ensures.shape) c.requires.live c.part_of.ensures.map (omega (arith, n, c.requires.two)) (c.in_ok-right.ensures.ok _ c.self.invariant.0.stands) c.in_ok-parting.ensures.anchor (added _ c.self.invariant.0.stands)
          c.halve.ensures.listed c.halve.ensures.kept (λ all. subst (HaveSalt c.halve.new.leaves.items) room c.halve.ensures.salts) c.halve.ensures.stay c.halve.ensures.go c.halve.ensures.others).0,
      live_split _ _ _ _ (c.add_anchor.ensures.shape ∙ c.free_leaf_from.ensures.shape) _ _ c.self.view_is c.args.leaf c.in_ok-right.right c.in_ok-parting.parting.anchor c.requires.live (c.in_ok-right.ensures.ok _ c.self.invariant.0.stands) (added _ c.self.invariant.0.stands),
      room_moved _ _ _ _ (c.add_anchor.ensures.shape ∙ c.free_leaf_from.ensures.shape) c.halve.ensures.capacity c.self.invariant.2,
    )

pub returns-clause-ok : goal.returns-clause-ok
returns-clause-ok c =
    let lt = live_place _ _ _ _ c.self.invariant.0 _ c.self.view_is c.args.leaf c.requires.live in
    let n : length c.index_mut.result.now.map ≡ size_at c.args.self.now c.args.leaf = ap (λ (l : LeafMap (List ℕ)). length l.map) c.index_mut.ensures.value ∙ size_read _ _ _ _ c.self.invariant.0 _ c.self.view_is c.args.leaf _ lt in
    let room : c.in_ok-parting.parting.room.salt ≡ (shape_of c.self.inside.rows).salt = c.in_ok-parting.ensures.salted ∙ ap (λ (k : Shape). k.salt) (c.layout-salt.ensures ∙ c.free_leaf_from.ensures.shape) in
    let added = split_told _ _ _ _ (words_of c.add_anchor.new.rows) c.args.leaf c.in_ok-right.right c.in_ok-parting.parting.anchor c.free_leaf_from.ensures.shape c.free_leaf_from.ensures.words c.in_ok-add_anchor.ensures.ok in
    (halved _ _ _ _ c.self.invariant.0 _ c.self.view_is c.args.leaf c.part_of.new.leaf c.index_mut.result.now lt c.index_mut.ensures.value c.part_of.ensures.salt (shape_of c.add_anchor.new.rows) (words_of c.add_anchor.new.rows) c.halve.new.leaves.items c.in_ok-right.right c.in_ok-parting.parting.anchor
    (c.add_anchor.ensures.shape ∙ c.free_leaf_from.ensures.shape) c.requires.live c.part_of.ensures.map (omega (arith, n, c.requires.two)) (c.in_ok-right.ensures.ok _ c.self.invariant.0.stands) c.in_ok-parting.ensures.anchor (added _ c.self.invariant.0.stands)
    c.halve.ensures.listed c.halve.ensures.kept (λ all. subst (HaveSalt c.halve.new.leaves.items) room c.halve.ensures.salts) c.halve.ensures.stay c.halve.ensures.go c.halve.ensures.others).1
