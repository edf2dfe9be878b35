use Rattle.std.proofs.Common.{◌≡◌, ◌-◌, ◌∙◌, ℕ, List, is_some, Option, ap, sym, arith}
use Rattle.leaf_store.specs.Leaf.{LeafMap}
use Rattle.map_model.specs.Maps.{find}
use Rattle.leaf_table.proofs.Readings.{target_place, hash_read, find_read}
use Rattle.leaf_table.proofs.Written.{count_less, count_same, counted_some, remove_written}
use Rattle.leaf_table.proofs.table.LeafTable.remove.Goals as goal

pub index_mut-leaf-requires : goal.index_mut-leaf-requires
index_mut-leaf-requires c = let h = target_place _ _ _ _ c.self.invariant.0 _ c.self.view_is c.args.place.leaf c.args.key.now c.requires.leaf in omega (arith, h)

pub overflow_sub-self : goal.overflow_sub-self
overflow_sub-self c =
    let gone : c.is_some-gone.result ≡ is_some (find c.args.self.now.map c.args.key.now) = c.is_some-gone.ensures ∙ (ap (λ (o : Option (List ℕ)). is_some o) c.remove_hashed.ensures.value ∙ (ap (λ (l : LeafMap (List ℕ)). is_some (find l.map c.args.key.now)) c.index_mut-leaf.ensures.value ∙ ap (λ (o : Option (List ℕ)). is_some o) (find_read _ _ _ _ c.self.invariant.0 _ c.self.view_is c.args.place.leaf c.args.key.now _ c.requires.leaf))) in
    let some = counted_some _ _ _ _ c.self.invariant.0 _ c.self.view_is c.args.key.now (sym gone ∙ c.if-gone.true) in
    omega (arith, some)

pub invariant_of-self : goal.invariant_of-self
invariant_of-self c =
    let lt = target_place _ _ _ _ c.self.invariant.0 _ c.self.view_is c.args.place.leaf c.args.key.now c.requires.leaf in
    let gone : c.is_some-gone.result ≡ is_some (find c.args.self.now.map c.args.key.now) = c.is_some-gone.ensures ∙ (ap (λ (o : Option (List ℕ)). is_some o) c.remove_hashed.ensures.value ∙ (ap (λ (l : LeafMap (List ℕ)). is_some (find l.map c.args.key.now)) c.index_mut-leaf.ensures.value ∙ ap (λ (o : Option (List ℕ)). is_some o) (find_read _ _ _ _ c.self.invariant.0 _ c.self.view_is c.args.place.leaf c.args.key.now _ c.requires.leaf))) in
    let some = counted_some _ _ _ _ c.self.invariant.0 _ c.self.view_is c.args.key.now (sym gone ∙ c.if-gone.true) in (
      (remove_written _ _ _ _ c.self.invariant.0 _ c.self.view_is c.args.place.leaf c.remove_hashed.new.self c.index_mut-leaf.result.now lt c.index_mut-leaf.ensures.value c.remove_hashed.ensures.salt c.args.key.now (c.self.inside.keys - 1)
          c.requires.leaf c.remove_hashed.ensures.map (count_less _ c.self.inside.keys (sym gone ∙ c.if-gone.true) some)).whole,
      c.self.invariant.1,
      c.self.invariant.2,
    )

pub invariant_of-self-else-gone : goal.invariant_of-self-else-gone
invariant_of-self-else-gone c =
    let lt = target_place _ _ _ _ c.self.invariant.0 _ c.self.view_is c.args.place.leaf c.args.key.now c.requires.leaf in
    let gone : c.is_some-gone.result ≡ is_some (find c.args.self.now.map c.args.key.now) = c.is_some-gone.ensures ∙ (ap (λ (o : Option (List ℕ)). is_some o) c.remove_hashed.ensures.value ∙ (ap (λ (l : LeafMap (List ℕ)). is_some (find l.map c.args.key.now)) c.index_mut-leaf.ensures.value ∙ ap (λ (o : Option (List ℕ)). is_some o) (find_read _ _ _ _ c.self.invariant.0 _ c.self.view_is c.args.place.leaf c.args.key.now _ c.requires.leaf))) in (
      (remove_written _ _ _ _ c.self.invariant.0 _ c.self.view_is c.args.place.leaf c.remove_hashed.new.self c.index_mut-leaf.result.now lt c.index_mut-leaf.ensures.value c.remove_hashed.ensures.salt c.args.key.now (c.self.inside.keys)
          c.requires.leaf c.remove_hashed.ensures.map (count_same _ c.self.inside.keys (sym gone ∙ c.if-gone.false))).whole,
      c.self.invariant.1,
      c.self.invariant.2,
    )

pub returns-then-gone-clause-map : goal.returns-then-gone-clause-map
returns-then-gone-clause-map c =
    let lt = target_place _ _ _ _ c.self.invariant.0 _ c.self.view_is c.args.place.leaf c.args.key.now c.requires.leaf in
    let gone : c.is_some-gone.result ≡ is_some (find c.args.self.now.map c.args.key.now) = c.is_some-gone.ensures ∙ (ap (λ (o : Option (List ℕ)). is_some o) c.remove_hashed.ensures.value ∙ (ap (λ (l : LeafMap (List ℕ)). is_some (find l.map c.args.key.now)) c.index_mut-leaf.ensures.value ∙ ap (λ (o : Option (List ℕ)). is_some o) (find_read _ _ _ _ c.self.invariant.0 _ c.self.view_is c.args.place.leaf c.args.key.now _ c.requires.leaf))) in
    let some = counted_some _ _ _ _ c.self.invariant.0 _ c.self.view_is c.args.key.now (sym gone ∙ c.if-gone.true) in
    (remove_written _ _ _ _ c.self.invariant.0 _ c.self.view_is c.args.place.leaf c.remove_hashed.new.self c.index_mut-leaf.result.now lt c.index_mut-leaf.ensures.value c.remove_hashed.ensures.salt c.args.key.now (c.self.inside.keys - 1)
    c.requires.leaf c.remove_hashed.ensures.map (count_less _ c.self.inside.keys (sym gone ∙ c.if-gone.true) some)).is

pub returns-else-gone-clause-map : goal.returns-else-gone-clause-map
returns-else-gone-clause-map c =
    let lt = target_place _ _ _ _ c.self.invariant.0 _ c.self.view_is c.args.place.leaf c.args.key.now c.requires.leaf in
    let gone : c.is_some-gone.result ≡ is_some (find c.args.self.now.map c.args.key.now) = c.is_some-gone.ensures ∙ (ap (λ (o : Option (List ℕ)). is_some o) c.remove_hashed.ensures.value ∙ (ap (λ (l : LeafMap (List ℕ)). is_some (find l.map c.args.key.now)) c.index_mut-leaf.ensures.value ∙ ap (λ (o : Option (List ℕ)). is_some o) (find_read _ _ _ _ c.self.invariant.0 _ c.self.view_is c.args.place.leaf c.args.key.now _ c.requires.leaf))) in
    (remove_written _ _ _ _ c.self.invariant.0 _ c.self.view_is c.args.place.leaf c.remove_hashed.new.self c.index_mut-leaf.result.now lt c.index_mut-leaf.ensures.value c.remove_hashed.ensures.salt c.args.key.now (c.self.inside.keys)
    c.requires.leaf c.remove_hashed.ensures.map (count_same _ c.self.inside.keys (sym gone ∙ c.if-gone.false))).is

pub returns-then-gone-clause-gone : goal.returns-then-gone-clause-gone
returns-then-gone-clause-gone c = c.is_some-gone.ensures ∙ (ap (λ (o : Option (List ℕ)). is_some o) c.remove_hashed.ensures.value ∙ (ap (λ (l : LeafMap (List ℕ)). is_some (find l.map c.args.key.now)) c.index_mut-leaf.ensures.value ∙ ap (λ (o : Option (List ℕ)). is_some o) (find_read _ _ _ _ c.self.invariant.0 _ c.self.view_is c.args.place.leaf c.args.key.now _ c.requires.leaf)))

pub returns-else-gone-clause-gone : goal.returns-else-gone-clause-gone
returns-else-gone-clause-gone c = c.is_some-gone.ensures ∙ (ap (λ (o : Option (List ℕ)). is_some o) c.remove_hashed.ensures.value ∙ (ap (λ (l : LeafMap (List ℕ)). is_some (find l.map c.args.key.now)) c.index_mut-leaf.ensures.value ∙ ap (λ (o : Option (List ℕ)). is_some o) (find_read _ _ _ _ c.self.invariant.0 _ c.self.view_is c.args.place.leaf c.args.key.now _ c.requires.leaf)))

pub remove_hashed-requires : goal.remove_hashed-requires
remove_hashed-requires c = rw (c.index_mut-leaf.ensures.value) (hash_read _ _ _ _ c.self.invariant.0 _ c.self.view_is c.args.place.leaf c.args.place.hash c.args.key.now _ c.requires.leaf c.requires.hash)
