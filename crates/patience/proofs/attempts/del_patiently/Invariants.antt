use Rattle.std.proofs.Common.{◌≡◌, ◌≤◌, List}
use Rattle.counts.specs.Counts.{RoseBy}
use Rattle.map_model.specs.History.{Entry}
use Rattle.map_model.specs.Ordered.{Follows, Stays}
use Rattle.patience.specs.Patience.{next_try}
use Rattle.patience.proofs.attempts.del_patiently.Given as goal

-- nothing was entered, and each attempt was counted
abbrev pub invariant-attempts : goal.invariant-attempts
invariant-attempts g l = record {
  lane : g.O.Ordered.lane l.store ≡ g.O.Ordered.lane l.fn.store;
  sole : g.O.Ordered.sole l.store ≡ g.O.Ordered.sole l.fn.store;
  origin : g.O.Ordered.origin l.store ≡ g.O.Ordered.origin l.fn.store;
  forks : g.O.Ordered.room l.store ≡ g.O.Ordered.room l.fn.store;
  limit : g.P.Patience.limit l.patience ≡ g.P.Patience.limit l.fn.patience;
  fits : (history : List Entry) → g.O.Ordered.fits l.fn.store history → g.O.Ordered.fits l.store history;
  stays : Follows (g.O.Ordered.stands l.fn.store) (g.O.Ordered.stands l.store) (Stays (g.O.Ordered.lane l.fn.store) (g.O.Ordered.sole l.fn.store));
  later : g.O.Ordered.refusals l.fn.store ≤ g.O.Ordered.refusals l.store;
  counted : RoseBy l.tries (g.O.Ordered.refusals l.fn.store) (g.O.Ordered.refusals l.store);
}

abbrev pub decreases-attempts : goal.decreases-attempts
decreases-attempts g l = g.P.Patience.left l.patience (next_try l.tries)
