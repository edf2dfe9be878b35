use Rattle.std.proofs.Common.{◌≡◌, ◌-◌, ◌<◌, ◌≤◌, ℕ, length, get_or}
use Rattle.leaf_store.proofs.place_order.index_of.Given as goal

abbrev pub invariant-seek : goal.invariant-seek
invariant-seek l = record {
  from : (k : ℕ) × (l.at ≤ k) × (k < length l.order) × (get_or l.order k l.place ≡ l.place);
}

abbrev pub decreases-seek : goal.decreases-seek
decreases-seek l = length l.order - l.at
