use Rattle.std.proofs.Common.{◌≡◌, ◌-◌, ◌<◌, ◌≤◌, ℕ, length, get_or, false}
use Rattle.leaf_tags.proofs.tags.Tags.find_from.Given as goal

abbrev pub invariant-onward : goal.invariant-onward
invariant-onward g l = record {
  from : l.start ≤ l.at;
  passed : (k place : ℕ) (d : ℕ × ℕ) → l.start ≤ k → k < l.at → k < length l.self-inside.pairs.items → get_or l.self-inside.pairs.items k d ≡ (l.tag, place) → goal.F-post g l.eq place false;
}

abbrev pub decreases-onward : goal.decreases-onward
decreases-onward g l = length l.self-inside.pairs.items - l.at
