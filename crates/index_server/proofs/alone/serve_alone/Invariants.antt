use Rattle.std.proofs.Common.{◌≡◌, ◌<◌, ◌≤◌, ◌+◌, List}
use Rattle.counts.specs.Counts.{RoseBy}
use Rattle.map_model.specs.History.{Entry}
use Rattle.map_model.specs.Ordered.{Follows}
use Rattle.index_server.specs.Connections.{ServesClosed}
use Rattle.index_server.specs.Ends.{EachClosed}
use Rattle.index_server.proofs.alone.serve_alone.Given as goal

-- the connections closed so far had their sessions, and were counted
abbrev pub invariant-loop : goal.invariant-loop
invariant-loop g l = record {
  can : (goal.iterator-loop g).can_next l.iterator';
  finite : (goal.iterator-loop g).is_finite l.iterator';
  serves : Follows (g.T.Ordered.stands l.fn.store) (g.T.Ordered.stands l.store) (ServesClosed (g.T.Ordered.lane l.fn.store) (g.T.Ordered.sole l.fn.store) (g.T.Ordered.fits l.fn.store) (g.T.Ordered.refusals l.fn.store) (g.T.Ordered.refusals l.store) (g.T.Ordered.last l.fn.store) (g.T.Ordered.last l.store) (g.D.Door.closed l.fn.door) (g.D.Door.closed l.door));
  lane : g.T.Ordered.lane l.store ≡ g.T.Ordered.lane l.fn.store;
  sole : g.T.Ordered.sole l.store ≡ g.T.Ordered.sole l.fn.store;
  origin : g.T.Ordered.origin l.store ≡ g.T.Ordered.origin l.fn.store;
  forks : g.T.Ordered.room l.store ≡ g.T.Ordered.room l.fn.store;
  fits : (history : List Entry) → g.T.Ordered.fits l.fn.store history → g.T.Ordered.fits l.store history;
  closings : RoseBy l.closed (g.D.Door.closings l.fn.door) (g.D.Door.closings l.door);
  most : g.D.Door.closings l.door ≤ g.D.Door.closings l.fn.door + l.closed;
  opened : (0 < l.fn.sessions) → (g.D.Door.opened l.door ≡ g.D.Door.opened l.fn.door + l.closed) × (l.closed ≤ l.fn.sessions);
  returned : EachClosed (g.D.Door.opened l.fn.door) (g.D.Door.opened l.door) (g.D.Door.closings l.fn.door) (g.D.Door.closings l.door);
  faults : g.D.Door.faults l.fn.door ≤ g.D.Door.faults l.door;
}
