use Rattle.std.proofs.Common.{◌≡◌, length}
use Rattle.leaf_store.specs.Order.{ArePlaces, HasFront}
use Rattle.leaf_store.proofs.place_order.put_places.Given as goal

abbrev pub invariant-loop-i : goal.invariant-loop-i
invariant-loop-i g l = record {
  places : ArePlaces l.order.items;
  count : length l.order.items ≡ length l.fn.order.items;
  front : HasFront l.rows l.order.items l.i;
}
