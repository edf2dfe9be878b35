use Rattle.std.proofs.Common.{◌≡◌, ◌<◌, ◌≤◌, ℕ, get_or, false}
use Rattle.leaf_tags.proofs.tags.Tags.find_before.Given as goal

abbrev pub invariant-back : goal.invariant-back
invariant-back g l = record {
  until : l.at ≤ l.start;
  passed : (k place : ℕ) (d : ℕ × ℕ) → l.at ≤ k → k < l.start → get_or l.self-inside.pairs.items k d ≡ (l.tag, place) → goal.F-post g l.eq place false;
}

abbrev pub decreases-back : goal.decreases-back
decreases-back g l = l.at
