use Rattle.std.proofs.Common.{◌≡◌}
use Rattle.uses.proofs.shared.put_and_count.Given as goal

-- putting leaves the lane one of its index
abbrev pub invariant-loop-number : goal.invariant-loop-number
invariant-loop-number g l = g.T.Ordered.origin l.lane ≡ g.T.Ordered.origin l.fn.lane
