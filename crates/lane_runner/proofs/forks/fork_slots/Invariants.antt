use Rattle.std.proofs.Common.{◌≡◌, ◌≤◌, ◌<◌, ◌+◌, vec_len, length, false, List}
use Rattle.std.specs.Prelude.{vec_capacity}
use Rattle.map_model.specs.History.{Entry}
use Rattle.lane_runner.specs.Tasks.{AreReady}
use Rattle.lane_runner.proofs.forks.fork_slots.Given as goal

-- there is a ready lane for each script taken so far, and as much less room for forks
abbrev pub invariant-loop-script : goal.invariant-loop-script
invariant-loop-script g l = record {
  ready : AreReady (g.T.Ordered.origin l.fn.first) (g.T.Lanes.lanes l.fn.first) (g.P.Patience.limit l.patience) (g.T.Lanes.seen l.fn.first) (g.T.Ordered.lane l.fn.first + 1) (g.T.Lanes.next l.first) l.yielded l.slots.items;
  fits : (history : List Entry) → g.T.Ordered.fits l.fn.first history → g.T.Ordered.fits l.first history;
  less : g.T.Ordered.room l.fn.first ≡ g.T.Ordered.room l.first + length l.yielded;
  count : g.T.Ordered.refusals l.first ≡ g.T.Ordered.refusals l.fn.first;
  none : length l.yielded ≡ 0 → g.T.Ordered.sole l.first ≡ g.T.Ordered.sole l.fn.first;
  among : 0 < length l.yielded → g.T.Ordered.sole l.first ≡ false;
  seen : g.T.Lanes.seen l.first ≡ g.T.Lanes.seen l.fn.first;
  lane : g.T.Ordered.lane l.first ≡ g.T.Ordered.lane l.fn.first;
  origin : g.T.Ordered.origin l.first ≡ g.T.Ordered.origin l.fn.first;
  lanes : g.T.Lanes.lanes l.first ≡ g.T.Lanes.lanes l.fn.first;
  len : vec_len l.slots ≡ length l.yielded;
  capacity : vec_len l.fn.scripts ≤ vec_capacity l.slots;
}
