use Rattle.std.proofs.Common.{◌+◌, ◌∙◌, ℕ, List, not, is_some, Option, ap, sym, arith}
use Rattle.leaf_store.specs.Leaf.{LeafMap}
use Rattle.map_model.specs.Maps.{find}
use Rattle.leaf_table.proofs.Readings.{target_place, hash_read, ascending_read, find_read}
use Rattle.leaf_table.proofs.WholeCalls.{keys_bound}
use Rattle.leaf_table.proofs.Written.{on_err, count_new, count_old, same_written, set_written}
use Rattle.leaf_table.proofs.table.LeafTable.set.Goals as goal

pub index_mut-leaf-requires : goal.index_mut-leaf-requires
index_mut-leaf-requires c = let h = target_place _ _ _ _ c.self.invariant.0 _ c.self.view_is c.args.place.leaf c.args.key.now c.requires.place.leaf in omega (arith, h)

pub invariant_of-self : goal.invariant_of-self
invariant_of-self c =
    let lt = target_place _ _ _ _ c.self.invariant.0 _ c.self.view_is c.args.place.leaf c.args.key.now c.requires.place.leaf in
    ((same_written _ _ _ _ c.self.invariant.0 _ c.self.view_is c.args.place.leaf c.put.new.leaf c.index_mut-leaf.result.now lt c.index_mut-leaf.ensures.value c.put.ensures.salt c.in_err-new.ensures.refused).whole, c.self.invariant.1, c.self.invariant.2)

pub returns-in_err-new-clause-refused : goal.returns-in_err-new-clause-refused
returns-in_err-new-clause-refused c =
    let lt = target_place _ _ _ _ c.self.invariant.0 _ c.self.view_is c.args.place.leaf c.args.key.now c.requires.place.leaf in
    on_err c.from_residual.result (same_written _ _ _ _ c.self.invariant.0 _ c.self.view_is c.args.place.leaf c.put.new.leaf c.index_mut-leaf.result.now lt c.index_mut-leaf.ensures.value c.put.ensures.salt c.in_err-new.ensures.refused).is

pub overflow_add-self : goal.overflow_add-self
overflow_add-self c = let h = keys_bound _ _ _ _ c.self.invariant.0 in omega (arith, h)

pub returns-then-new-clause-new : goal.returns-then-new-clause-new
returns-then-new-clause-new c =
    c.in_ok-new.ensures.new ∙ (ap (λ (l : LeafMap (List ℕ)). not (is_some (find l.map c.args.key.now))) c.index_mut-leaf.ensures.value ∙ ap (λ (o : Option (List ℕ)). not (is_some o)) (find_read _ _ _ _ c.self.invariant.0 _ c.self.view_is c.args.place.leaf c.args.key.now _ c.requires.place.leaf))

pub returns-else-new-clause-new : goal.returns-else-new-clause-new
returns-else-new-clause-new c =
    c.in_ok-new.ensures.new ∙ (ap (λ (l : LeafMap (List ℕ)). not (is_some (find l.map c.args.key.now))) c.index_mut-leaf.ensures.value ∙ ap (λ (o : Option (List ℕ)). not (is_some o)) (find_read _ _ _ _ c.self.invariant.0 _ c.self.view_is c.args.place.leaf c.args.key.now _ c.requires.place.leaf))

pub invariant_of-self-then-new : goal.invariant_of-self-then-new
invariant_of-self-then-new c =
    let lt = target_place _ _ _ _ c.self.invariant.0 _ c.self.view_is c.args.place.leaf c.args.key.now c.requires.place.leaf in
    let new = c.in_ok-new.ensures.new ∙ (ap (λ (l : LeafMap (List ℕ)). not (is_some (find l.map c.args.key.now))) c.index_mut-leaf.ensures.value ∙ ap (λ (o : Option (List ℕ)). not (is_some o)) (find_read _ _ _ _ c.self.invariant.0 _ c.self.view_is c.args.place.leaf c.args.key.now _ c.requires.place.leaf)) in (
      (set_written _ _ _ _ c.self.invariant.0 _ c.self.view_is c.args.place.leaf c.put.new.leaf c.index_mut-leaf.result.now lt c.index_mut-leaf.ensures.value c.put.ensures.salt c.args.key.now c.args.value.now (c.self.inside.keys + 1)
          c.requires.place.leaf c.in_ok-new.ensures.map c.requires.room (count_new _ c.self.inside.keys (sym new ∙ c.if-new.true))).whole,
      c.self.invariant.1,
      c.self.invariant.2,
    )

pub invariant_of-self-else-new : goal.invariant_of-self-else-new
invariant_of-self-else-new c =
    let lt = target_place _ _ _ _ c.self.invariant.0 _ c.self.view_is c.args.place.leaf c.args.key.now c.requires.place.leaf in
    let new = c.in_ok-new.ensures.new ∙ (ap (λ (l : LeafMap (List ℕ)). not (is_some (find l.map c.args.key.now))) c.index_mut-leaf.ensures.value ∙ ap (λ (o : Option (List ℕ)). not (is_some o)) (find_read _ _ _ _ c.self.invariant.0 _ c.self.view_is c.args.place.leaf c.args.key.now _ c.requires.place.leaf)) in (
      (set_written _ _ _ _ c.self.invariant.0 _ c.self.view_is c.args.place.leaf c.put.new.leaf c.index_mut-leaf.result.now lt c.index_mut-leaf.ensures.value c.put.ensures.salt c.args.key.now c.args.value.now (c.self.inside.keys)
          c.requires.place.leaf c.in_ok-new.ensures.map c.requires.room (count_old _ c.self.inside.keys (sym new ∙ c.if-new.false))).whole,
      c.self.invariant.1,
      c.self.invariant.2,
    )

pub returns-then-new-clause-ok : goal.returns-then-new-clause-ok
returns-then-new-clause-ok c =
    let lt = target_place _ _ _ _ c.self.invariant.0 _ c.self.view_is c.args.place.leaf c.args.key.now c.requires.place.leaf in
    let new = c.in_ok-new.ensures.new ∙ (ap (λ (l : LeafMap (List ℕ)). not (is_some (find l.map c.args.key.now))) c.index_mut-leaf.ensures.value ∙ ap (λ (o : Option (List ℕ)). not (is_some o)) (find_read _ _ _ _ c.self.invariant.0 _ c.self.view_is c.args.place.leaf c.args.key.now _ c.requires.place.leaf)) in
    (set_written _ _ _ _ c.self.invariant.0 _ c.self.view_is c.args.place.leaf c.put.new.leaf c.index_mut-leaf.result.now lt c.index_mut-leaf.ensures.value c.put.ensures.salt c.args.key.now c.args.value.now (c.self.inside.keys + 1)
    c.requires.place.leaf c.in_ok-new.ensures.map c.requires.room (count_new _ c.self.inside.keys (sym new ∙ c.if-new.true))).is

pub returns-else-new-clause-ok : goal.returns-else-new-clause-ok
returns-else-new-clause-ok c =
    let lt = target_place _ _ _ _ c.self.invariant.0 _ c.self.view_is c.args.place.leaf c.args.key.now c.requires.place.leaf in
    let new = c.in_ok-new.ensures.new ∙ (ap (λ (l : LeafMap (List ℕ)). not (is_some (find l.map c.args.key.now))) c.index_mut-leaf.ensures.value ∙ ap (λ (o : Option (List ℕ)). not (is_some o)) (find_read _ _ _ _ c.self.invariant.0 _ c.self.view_is c.args.place.leaf c.args.key.now _ c.requires.place.leaf)) in
    (set_written _ _ _ _ c.self.invariant.0 _ c.self.view_is c.args.place.leaf c.put.new.leaf c.index_mut-leaf.result.now lt c.index_mut-leaf.ensures.value c.put.ensures.salt c.args.key.now c.args.value.now (c.self.inside.keys)
    c.requires.place.leaf c.in_ok-new.ensures.map c.requires.room (count_old _ c.self.inside.keys (sym new ∙ c.if-new.false))).is

pub put-requires-clause-hash : goal.put-requires-clause-hash
put-requires-clause-hash c = rw (c.index_mut-leaf.ensures.value) (hash_read _ _ _ _ c.self.invariant.0 _ c.self.view_is c.args.place.leaf c.args.place.hash c.args.key.now _ c.requires.place.leaf c.requires.place.hash)

pub put-requires-clause-ascends : goal.put-requires-clause-ascends
put-requires-clause-ascends c = rw (c.index_mut-leaf.ensures.value) (ascending_read _ _ _ _ c.self.invariant.0 _ c.self.view_is c.args.place.leaf c.args.key.now _ c.requires.place.leaf)
