use Rattle.std.proofs.Common.{◌<◌, ◌≤◌, ℕ, length, get_or}
use Rattle.leaf_tags.proofs.tags.Tags.start_of.Given as goal

abbrev pub invariant-down : goal.invariant-down
invariant-down l = record {
  in_range : l.at ≤ length l.self-inside.pairs.items;
  upper : (k : ℕ) (d : ℕ × ℕ) → l.at ≤ k → k < length l.self-inside.pairs.items → l.tag ≤ (get_or l.self-inside.pairs.items k d).0;
}

abbrev pub decreases-down : goal.decreases-down
decreases-down l = l.at
