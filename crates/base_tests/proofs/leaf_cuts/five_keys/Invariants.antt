use Rattle.std.proofs.Common.{◌≡◌}
use Rattle.base_tests.proofs.leaf_cuts.five_keys.Given as goal

abbrev pub invariant-loop-number : goal.invariant-loop-number
invariant-loop-number l = l.leaf.salt ≡ l.salt
