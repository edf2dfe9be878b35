use Rattle.std.proofs.Common.{◌≡◌, ◌+◌, ◌-◌, ◌≤◌, length}
use Rattle.std.specs.List.{SameBelow}
use Rattle.std.specs.Vec.{vec_capacity}
use Rattle.leaf_store.specs.Order.{ArePlaces}
use Rattle.leaf_store.proofs.place_order.list_places.Given as goal

abbrev pub invariant-loop-place : goal.invariant-loop-place
invariant-loop-place l = record {
  places : ArePlaces l.order.items;
  listed : SameBelow l.fn.order.items l.order.items (length l.fn.order.items);
  long : length l.fn.order.items ≤ length l.order.items;
  size : length l.order.items ≡ l.place;
  room : length l.order.items + (l.count - l.place) ≤ vec_capacity l.order;
}
