use Rattle.std.proofs.Common.{◌-◌, ◌≤◌, length}
use Rattle.leaf_tags.proofs.tags.Tags.past_lower.Given as goal

abbrev pub invariant-up : goal.invariant-up
invariant-up l = l.at ≤ length l.self-inside.pairs.items

abbrev pub decreases-up : goal.decreases-up
decreases-up l = length l.self-inside.pairs.items - l.at
