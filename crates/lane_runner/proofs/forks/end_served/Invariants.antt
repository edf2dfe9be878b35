use Rattle.std.proofs.Common.{◌≡◌, ◌≤◌, ◌+◌, ℕ, List, Option, Vec, [], vec_len}
use Rattle.std.specs.Prelude.{vec_capacity}
use Rattle.std.specs.declared.alloc.Global.{Global}
use mathlib.Core.List.{IsPrefix}
use Rattle.map_model.specs.History.{Entry, own}
use Rattle.lane_runner.specs.Tasks.{AreDone, AreForksOf}
use Rattle.lane_runner.proofs.Ending.{Ended}
use Rattle.lane_runner.proofs.forks.end_served.Given as goal

-- the lanes popped so far are ended into the first one, which has seen their calls, and those left have served their scripts
abbrev pub invariant-slots : goal.invariant-slots
invariant-slots g l = record {
  lane : g.T.Ordered.lane l.first ≡ g.T.Ordered.lane l.fn.first;
  sole : g.T.Ordered.sole l.first ≡ g.T.Ordered.sole l.fn.first;
  forks : g.T.Ordered.room l.first ≡ g.T.Ordered.room l.fn.first;
  origin : g.T.Ordered.origin l.first ≡ g.T.Ordered.origin l.fn.first;
  of : AreForksOf (g.T.Ordered.origin l.fn.first) l.slots.items;
  begins : IsPrefix (g.T.Lanes.seen l.fn.first) (g.T.Lanes.seen l.first);
  mine : own (g.T.Ordered.lane l.fn.first) (g.T.Lanes.seen l.first) ≡ own (g.T.Ordered.lane l.fn.first) (g.T.Lanes.seen l.fn.first);
  none : vec_len l.fn.slots ≡ 0 → g.T.Lanes.seen l.first ≡ g.T.Lanes.seen l.fn.first;
  less : vec_len l.slots ≤ vec_len l.fn.slots;
  len : vec_len l.ends + vec_len l.slots ≡ vec_len l.fn.ends + vec_len l.fn.slots;
  room : vec_capacity l.ends ≡ vec_capacity l.fn.ends;
  ended : (most : ℕ) (limit : Option ℕ) (before : List Entry) (upto : ℕ) (scripts : List (Vec ℕ Global)) → AreDone most limit before (g.T.Ordered.lane l.fn.first + 1) upto scripts l.fn.slots.items → l.fn.ends.items ≡ []
      → Ended (g.T.Lanes.has_all l.first) most limit before (g.T.Ordered.lane l.fn.first + 1) scripts l.slots.items l.ends.items (g.T.Ordered.refusals l.fn.first) (g.T.Ordered.refusals l.first) (g.T.Lanes.seen l.first);
}

abbrev pub decreases-slots : goal.decreases-slots
decreases-slots g l = goal.left-slots g l
