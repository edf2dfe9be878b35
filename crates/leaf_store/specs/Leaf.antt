-- What a leaf is seen as.
use Rattle.std.specs.Prelude.{ℕ, Bool, List}
use Rattle.map_model.specs.Maps.{Pairs}

-- its pairs by ascending keys, the key of each row by the row's place, the number of keys for which there is
-- room, the salt of its tags, and whether its rows are in the order of their keys
pub record LeafMap (V : Type 0) : Type 0 where
  pub map : Pairs V
  pub keys : List (List ℕ)
  pub spare : ℕ
  pub salt : ℕ
  pub is_ordered : Bool
