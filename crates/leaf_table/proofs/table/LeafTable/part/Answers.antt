use Rattle.std.proofs.Common.{◌≡◌, ◌≢◌, ◌∙◌, ℕ, List, length, refl, ap, sym, subst, arith}
use Rattle.std.specs.declared.cmp.Ordering.TheVariants.{Less, Greater}
use Rattle.key_bytes.specs.Bound.{bound_cmp}
use Rattle.key_bytes.specs.declared.bound.Bound.{Bound}
use Rattle.map_model.specs.Maps.{Pairs}
use Rattle.meta_trie.specs.Stands.{anchors_of}
use Rattle.row_words.specs.VecRows.{shape_of, words_of}
use Rattle.leaf_spans.specs.Ends.{part_end}
use Rattle.leaf_table.proofs.LiveLeaves.{live_moved}
use Rattle.leaf_spans.proofs.PartEnds.{part_end_within}
use Rattle.leaf_pages.proofs.PartEnds.{part_end_is}
use Rattle.leaf_table.proofs.Written.{moved, room_moved, followed_place, same_written, part_found, part_few, part_above}
use Rattle.leaf_table.proofs.table.LeafTable.part.Goals as goal

pub index_mut-requires : goal.index_mut-requires
index_mut-requires c = let lt = followed_place _ _ _ _ c.self.invariant.0 c.locate_from-located.result.leaf c.locate_from-located.result.next c.locate_from-located.ensures.next in omega (arith, lt)

pub invariant_of-self-in_err-fill : goal.invariant_of-self-in_err-fill
invariant_of-self-in_err-fill c =
    let lt = followed_place _ _ _ _ c.self.invariant.0 c.locate_from-located.result.leaf c.locate_from-located.result.next c.locate_from-located.ensures.next in
    ((moved _ _ _ _ _ _ _ c.locate_from-located.ensures.shape c.locate_from-located.ensures.words (same_written _ _ _ _ c.self.invariant.0 _ c.self.view_is c.locate_from-located.result.leaf c.fill.new.leaf c.index_mut.result.now lt c.index_mut.ensures.value c.fill.ensures.salt c.fill.ensures.map)).whole, live_moved _ _ _ _ c.locate_from-located.ensures.shape c.self.inside.full_below c.locate_from-located.ensures.words c.self.invariant.1, room_moved _ _ _ _ c.locate_from-located.ensures.shape refl c.self.invariant.2)

pub returns-in_err-fill-clause-same : goal.returns-in_err-fill-clause-same
returns-in_err-fill-clause-same c =
    let lt = followed_place _ _ _ _ c.self.invariant.0 c.locate_from-located.result.leaf c.locate_from-located.result.next c.locate_from-located.ensures.next in
    (moved _ _ _ _ _ _ _ c.locate_from-located.ensures.shape c.locate_from-located.ensures.words (same_written _ _ _ _ c.self.invariant.0 _ c.self.view_is c.locate_from-located.result.leaf c.fill.new.leaf c.index_mut.result.now lt c.index_mut.ensures.value c.fill.ensures.salt c.fill.ensures.map)).is

pub invariant_of-self-2 : goal.invariant_of-self-2
invariant_of-self-2 c =
    let lt = followed_place _ _ _ _ c.self.invariant.0 c.locate_from-located.result.leaf c.locate_from-located.result.next c.locate_from-located.ensures.next in
    ((moved _ _ _ _ _ _ _ c.locate_from-located.ensures.shape c.locate_from-located.ensures.words (same_written _ _ _ _ c.self.invariant.0 _ c.self.view_is c.locate_from-located.result.leaf c.fill.new.leaf c.index_mut.result.now lt c.index_mut.ensures.value c.fill.ensures.salt c.fill.ensures.map)).whole, live_moved _ _ _ _ c.locate_from-located.ensures.shape c.self.inside.full_below c.locate_from-located.ensures.words c.self.invariant.1, room_moved _ _ _ _ c.locate_from-located.ensures.shape refl c.self.invariant.2)

pub returns-clause-same : goal.returns-clause-same
returns-clause-same c =
    let lt = followed_place _ _ _ _ c.self.invariant.0 c.locate_from-located.result.leaf c.locate_from-located.result.next c.locate_from-located.ensures.next in
    (moved _ _ _ _ _ _ _ c.locate_from-located.ensures.shape c.locate_from-located.ensures.words (same_written _ _ _ _ c.self.invariant.0 _ c.self.view_is c.locate_from-located.result.leaf c.fill.new.leaf c.index_mut.result.now lt c.index_mut.ensures.value c.fill.ensures.salt c.fill.ensures.map)).is

pub returns-clause-pairs : goal.returns-clause-pairs
returns-clause-pairs c =
    let lt = followed_place _ _ _ _ c.self.invariant.0 c.locate_from-located.result.leaf c.locate_from-located.result.next c.locate_from-located.ensures.next in
    let end : c.in_ok-upto.upto ≡ part_end (anchors_of (shape_of c.self.inside.rows) (words_of c.self.inside.rows)) c.args.from.now c.args.to.now = c.in_ok-upto.ensures ∙ part_end_is _ c.args.from.now c.args.to.now c.locate_from-located.result.leaf c.locate_from-located.result.next c.locate_from-located.ensures.leaf c.locate_from-located.ensures.next in
    c.in_ok-fill.ensures.ok ∙ part_found _ _ _ _ c.self.invariant.0 _ c.self.view_is c.locate_from-located.result.leaf c.fill.new.leaf c.index_mut.result.now lt c.index_mut.ensures.value c.fill.ensures.salt c.args.from.now c.args.to.now c.in_ok-upto.upto c.requires c.locate_from-located.ensures.leaf end

pub returns-clause-above : goal.returns-clause-above
returns-clause-above c =
    let end : c.in_ok-upto.upto ≡ part_end (anchors_of (shape_of c.self.inside.rows) (words_of c.self.inside.rows)) c.args.from.now c.args.to.now = c.in_ok-upto.ensures ∙ part_end_is _ c.args.from.now c.args.to.now c.locate_from-located.result.leaf c.locate_from-located.result.next c.locate_from-located.ensures.leaf c.locate_from-located.ensures.next in
    subst (λ (b : Bound). bound_cmp c.args.from.now b ≡ Less) (sym end) (part_above _ _ _ _ c.self.invariant.0 _ c.self.view_is c.args.from.now c.args.to.now c.requires)

pub returns-clause-within : goal.returns-clause-within
returns-clause-within c =
    let end : c.in_ok-upto.upto ≡ part_end (anchors_of (shape_of c.self.inside.rows) (words_of c.self.inside.rows)) c.args.from.now c.args.to.now = c.in_ok-upto.ensures ∙ part_end_is _ c.args.from.now c.args.to.now c.locate_from-located.result.leaf c.locate_from-located.result.next c.locate_from-located.ensures.leaf c.locate_from-located.ensures.next in
    subst (λ (b : Bound). bound_cmp b c.args.to.now ≢ Greater) (sym end) (part_end_within (anchors_of (shape_of c.self.inside.rows) (words_of c.self.inside.rows)) c.args.from.now c.args.to.now)

pub returns-clause-most : goal.returns-clause-most
returns-clause-most c =
    let lt = followed_place _ _ _ _ c.self.invariant.0 c.locate_from-located.result.leaf c.locate_from-located.result.next c.locate_from-located.ensures.next in
    let few = part_few _ _ _ _ c.self.invariant.0 _ c.self.view_is c.locate_from-located.result.leaf c.fill.new.leaf c.index_mut.result.now lt c.index_mut.ensures.value c.fill.ensures.salt c.args.from.now c.in_ok-upto.upto in
    let n = ap (λ (p : Pairs (List ℕ)). length p) c.in_ok-fill.ensures.ok in
    omega (arith, few, n)
