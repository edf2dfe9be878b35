use Rattle.std.proofs.Common.{◌≡◌, ◌-◌, ◌<◌, ◌≤◌, ℕ, length, get_or}
use Rattle.leaf_tags.proofs.tags.Tags.index_of.Given as goal

abbrev pub invariant-seek : goal.invariant-seek
invariant-seek l = record {
  from : (k : ℕ) × (l.at ≤ k) × (k < length l.self-inside.pairs.items) × (get_or l.self-inside.pairs.items k (l.tag, l.place) ≡ (l.tag, l.place));
  upper : (k : ℕ) (d : ℕ × ℕ) → l.at ≤ k → k < length l.self-inside.pairs.items → l.tag ≤ (get_or l.self-inside.pairs.items k d).0;
}

abbrev pub decreases-seek : goal.decreases-seek
decreases-seek l = length l.self-inside.pairs.items - l.at
