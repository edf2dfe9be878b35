use Rattle.std.proofs.Common.{arith, ◌∙◌, ap, inl, length, sym, subst}
use Rattle.map_model.specs.Maps.{IsMap, sorted}
use Rattle.map_model.proofs.Finds.{ascending_sorted}
use Rattle.leaf_store.proofs.Unsorted.{length-sorted, once_permutation, sorted_ascending, sorted_same}
use Rattle.leaf_store.proofs.Settled.{length-tags}
use Rattle.leaf_store.proofs.place_order.order_leaf.Goals as goal

pub retag-requires : goal.retag-requires
retag-requires g c =
    let a = length-tags c.args.salt c.args.rows.now.items c.args.tags.now.pairs c.requires.tags in
    let b = length-sorted c.args.rows.now.items c.requires.keys in
    let d = ap length (c.deref-then-is_err.ensures.value ∙ c.sort_rows.ensures.rows) in
    omega (arith, a, b, d)

pub returns-then-is_err-clause-map : goal.returns-then-is_err-clause-map
returns-then-is_err-clause-map g c = ap sorted c.sort_rows.ensures.rows ∙ sorted_ascending (sorted c.args.rows.now.items) (ascending_sorted c.args.rows.now.items)

pub returns-then-is_err-clause-keys : goal.returns-then-is_err-clause-keys
returns-then-is_err-clause-keys g c = once_permutation c.args.rows.now.items c.sort_rows.new.rows.items (rw c.sort_rows.ensures.rows (sorted_same c.args.rows.now.items c.requires.keys)) c.requires.keys

pub returns-then-is_err-clause-count : goal.returns-then-is_err-clause-count
returns-then-is_err-clause-count g c = ap length c.sort_rows.ensures.rows ∙ length-sorted c.args.rows.now.items c.requires.keys

pub returns-then-is_err-clause-spare : goal.returns-then-is_err-clause-spare
returns-then-is_err-clause-spare g c =
    let a = length-tags c.args.salt c.args.rows.now.items c.args.tags.now.pairs c.requires.tags in
    let b = length-sorted c.args.rows.now.items c.requires.keys in
    let d = ap length (c.deref-then-is_err.ensures.value ∙ c.sort_rows.ensures.rows) in
    omega (arith, a, b, d, c.retag.ensures.spare)

pub returns-then-is_err-clause-known : goal.returns-then-is_err-clause-known
returns-then-is_err-clause-known g c = inl (c.clear.ensures.items, subst IsMap (sym c.sort_rows.ensures.rows) (ascending_sorted c.args.rows.now.items))
