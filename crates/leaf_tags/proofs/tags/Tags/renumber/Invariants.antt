use Rattle.std.proofs.Common.{◌≡◌, ℕ, ◌<◌, ◌≤◌, get_or}
use Rattle.leaf_tags.proofs.tags.Tags.renumber.Given as goal

abbrev pub invariant-loop-pair : goal.invariant-loop-pair
invariant-loop-pair l = record {
  passed : (k : ℕ) (d : ℕ × ℕ) → k < l.pair-index → get_or l.pair-items k d ≡ ((get_or l.initial.pair-items k d).0, get_or l.places (get_or l.initial.pair-items k d).1 0);
  left : (k : ℕ) (d : ℕ × ℕ) → l.pair-index ≤ k → get_or l.pair-items k d ≡ get_or l.initial.pair-items k d;
}
