use Rattle.std.proofs.Common.{◌≡◌, ◌≤◌, ◌-◌}
use Rattle.map_model.specs.Ordered.{Follows}
use Rattle.index_server.specs.Hands.{ServesCounted}
use Rattle.index_server.proofs.workers.work.Given as goal

-- the connections closed so far had their sessions, and were counted
abbrev pub invariant-loop : goal.invariant-loop
invariant-loop g l = record {
  can : (goal.iterator-loop g).can_next l.iterator';
  finite : (goal.iterator-loop g).is_finite l.iterator';
  served : Follows (g.T.Ordered.stands l.fn.store) (g.T.Ordered.stands l.store) (ServesCounted (g.T.Ordered.lane l.fn.store) (g.T.Ordered.sole l.fn.store) (g.T.Ordered.refusals l.fn.store) (g.T.Ordered.refusals l.store) (g.T.Ordered.last l.fn.store) (g.T.Ordered.last l.store) (l.share.amount - l.fn.share.amount));
  more : l.fn.share.amount ≤ l.share.amount;
  parts : l.share.parts ≡ l.fn.share.parts;
  lane : g.T.Ordered.lane l.store ≡ g.T.Ordered.lane l.fn.store;
  sole : g.T.Ordered.sole l.store ≡ g.T.Ordered.sole l.fn.store;
  origin : g.T.Ordered.origin l.store ≡ g.T.Ordered.origin l.fn.store;
  room : g.T.Ordered.room l.store ≡ g.T.Ordered.room l.fn.store;
}
