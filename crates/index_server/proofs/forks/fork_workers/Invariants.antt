use Rattle.std.proofs.Common.{◌≡◌, ◌≤◌, ◌<◌, ◌+◌, false, vec_len}
use Rattle.std.specs.Prelude.{vec_capacity}
use Rattle.index_server.specs.Hands.{AreReady}
use Rattle.index_server.proofs.forks.fork_workers.Given as goal

-- each fork took one of the room and one part, and has seen what its store has
abbrev pub invariant-loop : goal.invariant-loop
invariant-loop g l = record {
  ready : AreReady (g.T.Ordered.origin l.fn.first) (g.T.Lanes.lanes l.fn.first) (g.T.Lanes.seen l.fn.first) (g.T.Ordered.lane l.fn.first + 1) (g.T.Lanes.next l.first) l.workers.items;
  less : g.T.Ordered.room l.fn.first ≡ g.T.Ordered.room l.first + l.counter;
  parts : l.all.parts + l.counter ≡ l.fn.count + 1;
  uncounted : l.all.amount ≡ 0;
  among : (0 < l.counter) → g.T.Ordered.sole l.first ≡ false;
  len : vec_len l.workers ≡ l.counter;
  capacity : l.fn.count ≤ vec_capacity l.workers;
  seen : g.T.Lanes.seen l.first ≡ g.T.Lanes.seen l.fn.first;
  lane : g.T.Ordered.lane l.first ≡ g.T.Ordered.lane l.fn.first;
  origin : g.T.Ordered.origin l.first ≡ g.T.Ordered.origin l.fn.first;
  lanes : g.T.Lanes.lanes l.first ≡ g.T.Lanes.lanes l.fn.first;
}
