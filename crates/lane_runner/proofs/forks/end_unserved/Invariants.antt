use Rattle.std.proofs.Common.{◌≡◌}
use Rattle.lane_runner.specs.Tasks.{AreForksOf, HaveSeen}
use Rattle.lane_runner.proofs.forks.end_unserved.Given as goal

-- each lane ended so far had seen only what the first one has, which is as it was
abbrev pub invariant-slots : goal.invariant-slots
invariant-slots g l = record {
  seen : g.T.Lanes.seen l.first ≡ g.T.Lanes.seen l.fn.first;
  lane : g.T.Ordered.lane l.first ≡ g.T.Ordered.lane l.fn.first;
  sole : g.T.Ordered.sole l.first ≡ g.T.Ordered.sole l.fn.first;
  room : g.T.Ordered.room l.first ≡ g.T.Ordered.room l.fn.first;
  origin : g.T.Ordered.origin l.first ≡ g.T.Ordered.origin l.fn.first;
  of : AreForksOf (g.T.Ordered.origin l.fn.first) l.slots.items;
  have : HaveSeen (g.T.Lanes.seen l.fn.first) l.slots.items;
}

abbrev pub decreases-slots : goal.decreases-slots
decreases-slots g l = goal.left-slots g l
