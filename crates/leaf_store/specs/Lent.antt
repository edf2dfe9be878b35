-- What a leaf ends as, where a `&mut` to one of its values is returned.
use Rattle.std.specs.Prelude.{ℕ, List, Option}
use Rattle.std.specs.Borrow.{LendsIf, Fml, RattleType, MutBor}
use Rattle.map_model.specs.Maps.{with}
use Rattle.leaf_store.specs.Leaf.{LeafMap}
use Rattle.leaf_store.specs.contracts.leaf.Leaf.{the_row}

-- the leaf with this value at the key, and else as it was
abbrev pub with_value : {V : Type 0} → LeafMap V → List ℕ → V → LeafMap V
with_value leaf key value = record leaf { map = with leaf.map key value }

-- once the borrow r ends, the key has the last value written through r; at `None` the leaf stays
abbrev pub LendsValue : (V : RattleType) → MutBor (LeafMap V.Denot) → List ℕ → Option (MutBor V.Denot) → Fml
LendsValue V leaf key r = LendsIf (the_row V) V leaf r (with_value leaf.now key) leaf.now
