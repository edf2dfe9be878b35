use Rattle.std.proofs.Common.{arith, ◌∙◌, ap, subst, length}
use Rattle.key_bytes.specs.declared.bound.Bound.TheVariants.{Low}
use Rattle.map_model.specs.Maps.{IsMap, between, sorted}
use Rattle.map_model.proofs.Finds.{ascending_sorted}
use Rattle.leaf_store.proofs.Cuts.{between_at}
use Rattle.leaf_store.proofs.Settled.{seen_pairs}
use Rattle.leaf_store.proofs.Unsorted.{length-sorted}
use Rattle.leaf_store.proofs.leaf.Leaf.pairs_between.Goals as goal

pub returns-clause-start : goal.returns-clause-start
returns-clause-start g c = c.count_in_order-start.ensures.count ∙ ap (λ m. length (between m Low c.args.from.now)) (ap sorted c.deref.ensures.value ∙ (seen_pairs _ _ c.self.view_is ∙ c.put_in_order.ensures.map))

pub returns-clause-end : goal.returns-clause-end
returns-clause-end g c = c.count_in_order-end.ensures.count ∙ ap (λ m. length (between m Low c.args.upto.now)) (ap sorted c.deref-3.ensures.value ∙ (seen_pairs _ _ c.self.view_is ∙ c.put_in_order.ensures.map))

pub returns-clause-in_range : goal.returns-clause-in_range
returns-clause-in_range g c =
    let size = length-sorted c.self.inside.rows.items c.self.invariant.0.keys in
    let map = ap length (seen_pairs _ _ c.self.view_is ∙ c.put_in_order.ensures.map) in
    let start = ap length c.deref.ensures.value in
    let end = ap length c.deref-3.ensures.value in
    (omega (arith, size, map, start, c.count_in_order-start.ensures.in_range), omega (arith, size, map, end, c.count_in_order-end.ensures.in_range))

pub returns-clause-pairs : goal.returns-clause-pairs
returns-clause-pairs g c =
    let up = subst IsMap (seen_pairs _ _ c.self.view_is ∙ c.put_in_order.ensures.map) (ascending_sorted c.self.inside.rows.items) in
    between_at c.args.self.now.map up c.args.from.now c.args.upto.now c.count_in_order-start.result c.count_in_order-end.result (returns-clause-start g c) (returns-clause-end g c)
