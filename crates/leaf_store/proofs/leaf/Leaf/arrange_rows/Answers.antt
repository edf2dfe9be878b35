use Rattle.std.proofs.Common.{arith, ◌≡◌, ◌∙◌, [], eqb-true, ap, length, sym, subst}
use Rattle.std.proofs.lemmas.List.{nil_from_length}
use Rattle.leaf_store.specs.Leaf.{LeafMap}
use Rattle.map_model.specs.Halves.{keys_of}
use Rattle.map_model.specs.Maps.{IsMap, sorted}
use Rattle.map_model.proofs.Finds.{ascending_sorted}
use Rattle.leaf_store.proofs.Unsorted.{length-sorted, sorted_ascending}
use Rattle.leaf_store.proofs.Listing.{plain_rows}
use Rattle.leaf_store.proofs.Settled.{settled_leaf, seen_map, seen_spare}
use Rattle.leaf_store.proofs.Fronts.{front_none}
use Rattle.leaf_store.proofs.leaf.Leaf.arrange_rows.Goals as goal

seen_whole : {V : Type 0} (m n : LeafMap V) → m ≡ n → m.keys ≡ keys_of m.map → n.keys ≡ keys_of n.map
seen_whole m n e h = subst (λ (s : LeafMap _). s.keys ≡ keys_of s.map) e h

pub invariant_of-self : goal.invariant_of-self
invariant_of-self g c = (settled_leaf c.self.inside.salt c.self.inside.rows.items c.self.inside.tags.pairs c.self.inside.order.items c.self.inside.ordered c.self.invariant.0 c.settle.new.rows.items c.settle.new.tags.pairs c.clear.new.self.items c.settle.ensures.rows c.settle.ensures.tags c.clear.ensures.items, front_none c.settle.new.rows.items c.clear.new.self.items)

pub returns-then-not-self-clause-map : goal.returns-then-not-self-clause-map
returns-then-not-self-clause-map g c = seen_map _ _ c.self.view_is _ (ap sorted c.settle.ensures.rows ∙ sorted_ascending (sorted c.self.inside.rows.items) (ascending_sorted c.self.inside.rows.items))

pub returns-then-not-self-clause-keys : goal.returns-then-not-self-clause-keys
returns-then-not-self-clause-keys g c = ap keys_of (sym (sorted_ascending c.settle.new.rows.items (subst IsMap (sym c.settle.ensures.rows) (ascending_sorted c.self.inside.rows.items))))

pub returns-then-not-self-clause-spare : goal.returns-then-not-self-clause-spare
returns-then-not-self-clause-spare g c =
    let size = ap length c.settle.ensures.rows in
    let same = length-sorted c.self.inside.rows.items c.self.invariant.0.keys in
    let v = seen_spare _ _ c.self.view_is in
    omega (arith, size, same, v, c.settle.ensures.capacity, c.settle.ensures.spare)

pub returns-else-not-is_empty-clause-keys : goal.returns-else-not-is_empty-clause-keys
returns-else-not-is_empty-clause-keys g c =
    let rows = c.self.inside.rows.items in
    let order = c.self.inside.order.items in
    let zero = eqb-true _ 0 (sym c.is_empty.ensures ∙ c.if-not-is_empty.false) in
    let none : order ≡ [] = nil_from_length order (omega (arith, zero)) in
    let up : IsMap rows = plain_rows rows order none (c.self.invariant.0.known c.if-not-self.false) in
    seen_whole _ _ c.self.view_is (ap keys_of (sym (sorted_ascending rows up)))
