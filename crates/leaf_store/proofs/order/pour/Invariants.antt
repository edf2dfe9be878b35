use Rattle.std.proofs.Common.{◌≡◌, ◌+◌, ◌-◌, ◌≤◌, ◌++◌, length, reverse}
use Rattle.std.specs.Vec.{vec_capacity}
use Rattle.leaf_store.proofs.order.pour.Given as goal

abbrev pub invariant-back : goal.invariant-back
invariant-back g l = record {
  moved : l.from.items ++ reverse l.into.items ≡ l.fn.from.items;
  stay : l.stay ≤ length l.from.items;
  room : length l.into.items + (length l.from.items - l.stay) ≤ vec_capacity l.into;
  from_capacity : vec_capacity l.from ≡ vec_capacity l.fn.from;
  into_capacity : vec_capacity l.into ≡ vec_capacity l.fn.into;
}

abbrev pub decreases-back : goal.decreases-back
decreases-back g l = length l.from.items
