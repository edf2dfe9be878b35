-- Where a key belongs.
use Rattle.std.specs.Prelude.{ℕ, ◌≡◌, List}
use Rattle.key_bytes.specs.Fnv.{prefix_hash}
use Rattle.anchor_rules.specs.Anchors.{target}
use Rattle.leaf_table.specs.Table.{Table}
use Rattle.leaf_table.specs.declared.answers.Place.{Place}

-- the place names the leaf whose span has the key, and the key's hash under the table's salt
pub record IsPlace (t : Table) (key : List ℕ) (place : Place) : Type 0 where
  pub leaf : place.leaf ≡ target t.anchors key
  pub hash : place.hash ≡ prefix_hash t.shape.salt key
