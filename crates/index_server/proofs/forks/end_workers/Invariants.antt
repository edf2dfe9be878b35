use Rattle.std.proofs.Common.{◌≡◌, ◌≤◌, ◌+◌, ◌-◌, ℕ, List, vec_len}
use mathlib.Core.List.{IsPrefix}
use Rattle.map_model.specs.History.{Entry, own}
use Rattle.index_server.specs.Hands.{AreDone, AreForksOf, HaveSeen}
use Rattle.index_server.proofs.Working.{Ended}
use Rattle.index_server.proofs.forks.end_workers.Given as goal

-- the lanes popped so far are ended into the first one, which has seen their calls, and their shares are merged; where all had seen one history, that one is still seen
abbrev pub invariant-workers : goal.invariant-workers
invariant-workers g l = record {
  lane : g.T.Ordered.lane l.first ≡ g.T.Ordered.lane l.fn.first;
  sole : g.T.Ordered.sole l.first ≡ g.T.Ordered.sole l.fn.first;
  origin : g.T.Ordered.origin l.first ≡ g.T.Ordered.origin l.fn.first;
  of : AreForksOf (g.T.Ordered.origin l.fn.first) l.workers.items;
  room : g.T.Ordered.room l.first ≡ g.T.Ordered.room l.fn.first;
  begins : IsPrefix (g.T.Lanes.seen l.fn.first) (g.T.Lanes.seen l.first);
  mine : own (g.T.Ordered.lane l.fn.first) (g.T.Lanes.seen l.first) ≡ own (g.T.Ordered.lane l.fn.first) (g.T.Lanes.seen l.fn.first);
  less : vec_len l.workers ≤ vec_len l.fn.workers;
  more : l.fn.all.amount ≤ l.all.amount;
  parts : l.all.parts + vec_len l.workers ≡ l.fn.all.parts + vec_len l.fn.workers;
  same : HaveSeen (g.T.Lanes.seen l.fn.first) l.fn.workers.items → (g.T.Lanes.seen l.first ≡ g.T.Lanes.seen l.fn.first) × HaveSeen (g.T.Lanes.seen l.fn.first) l.workers.items;
  ended : (most : ℕ) (before : List Entry) (upto : ℕ) → AreDone most before (g.T.Ordered.lane l.fn.first + 1) upto l.fn.workers.items
      → Ended (g.T.Lanes.has_all l.first) most before (g.T.Ordered.lane l.fn.first + 1) l.workers.items (vec_len l.fn.workers - vec_len l.workers) (l.all.amount - l.fn.all.amount) (g.T.Lanes.seen l.first);
}

abbrev pub decreases-workers : goal.decreases-workers
decreases-workers g l = goal.left-workers g l
