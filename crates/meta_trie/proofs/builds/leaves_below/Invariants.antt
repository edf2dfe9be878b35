use Rattle.std.proofs.Common.{ℕ, ◌<◌}
use Rattle.anchor_rules.specs.Anchors.{leaf_at}
use Rattle.meta_trie.proofs.builds.leaves_below.Given as goal

abbrev pub invariant-loop-i : goal.invariant-loop-i
invariant-loop-i l = (j : ℕ) → j < l.i → leaf_at l.anchors j < l.cap
