-- The order of ends of ranges.
use Rattle.std.specs.Prelude.{ℕ, List, Bool, true, false, Option, Some, None}
use Rattle.std.specs.declared.cmp.Ordering.{Ordering}
use Rattle.std.specs.declared.cmp.Ordering.TheVariants.{Less, Equal, Greater}
use Rattle.key_bytes.specs.Lengths.{IsKey}
use Rattle.key_bytes.specs.Order.{bytes_cmp, is_below}
use Rattle.key_bytes.specs.declared.bound.Bound.{Bound}
use Rattle.key_bytes.specs.declared.bound.Bound.TheVariants.{Low, At, High}

-- the open lower end, then keys, then the open upper end
abbrev pub bound_cmp : Bound → Bound → Ordering
bound_cmp Low Low = Equal
bound_cmp Low (At b) = Less
bound_cmp Low High = Less
bound_cmp (At a) Low = Greater
bound_cmp (At a) (At b) = bytes_cmp a b
bound_cmp (At a) High = Less
bound_cmp High Low = Greater
bound_cmp High (At b) = Greater
bound_cmp High High = Equal

-- the key is below this end
abbrev pub is_under : Bound → List ℕ → Bool
is_under Low key = false
is_under (At upto) key = is_below key upto
is_under High key = true

-- the key at an end, if it is at one
abbrev pub key_of : Bound → Option (List ℕ)
key_of Low = None
key_of (At key) = Some key
key_of High = None

-- where an end stands to all keys
abbrev pub side_of : Bound → Ordering
side_of Low = Less
side_of (At key) = Equal
side_of High = Greater

-- what an end is at is a key
abbrev pub IsBound : Bound → Type 0
IsBound Low = Unit {0}
IsBound (At key) = IsKey key
IsBound High = Unit {0}
