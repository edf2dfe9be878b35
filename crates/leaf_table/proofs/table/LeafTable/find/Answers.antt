use Rattle.std.proofs.Common.{◌∙◌, List, ℕ, Some, ap, sym, arith}
use Rattle.leaf_store.specs.Leaf.{LeafMap}
use Rattle.map_model.specs.Maps as maps
use Rattle.leaf_table.proofs.Readings.{target_place, hash_read, find_read}
use Rattle.leaf_table.proofs.table.LeafTable.find.Goals as goal

pub index-requires : goal.index-requires
index-requires c = let h = target_place _ _ _ _ c.self.invariant.0 _ c.self.view_is c.args.place.leaf c.args.key.now c.requires.leaf in omega (arith, h)

pub returns-in-Some : goal.returns-in-Some
returns-in-Some c =
    sym (find_read _ _ _ _ c.self.invariant.0 _ c.self.view_is c.args.place.leaf c.args.key.now _ c.requires.leaf)
    ∙ (ap (λ (l : LeafMap (List ℕ)). maps.find l.map c.args.key.now) (sym c.index.ensures) ∙ (c.in-Some.ensures ∙ ap (λ (v : List ℕ). Some v) (sym c.get.ensures)))

pub returns-in-None : goal.returns-in-None
returns-in-None c =
    sym (find_read _ _ _ _ c.self.invariant.0 _ c.self.view_is c.args.place.leaf c.args.key.now _ c.requires.leaf)
    ∙ (ap (λ (l : LeafMap (List ℕ)). maps.find l.map c.args.key.now) (sym c.index.ensures) ∙ c.in-None.ensures)

pub find_hashed-requires : goal.find_hashed-requires
find_hashed-requires c = rw (c.index.ensures) (hash_read _ _ _ _ c.self.invariant.0 _ c.self.view_is c.args.place.leaf c.args.place.hash c.args.key.now _ c.requires.leaf c.requires.hash)
