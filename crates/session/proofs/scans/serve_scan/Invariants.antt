use Rattle.std.proofs.Common.{◌≡◌, ◌≤◌, List}
use Rattle.std.specs.Ordering.{is_lt}
use Rattle.key_bytes.specs.Bound.{bound_cmp, IsBound}
use Rattle.key_bytes.specs.Ranks.{distance}
use Rattle.map_model.specs.History.{Entry}
use Rattle.map_model.specs.Ordered.{Follows}
use Rattle.outside.specs.Writing.{Wrote}
use Rattle.session.proofs.Scanning.{Scans}
use Rattle.session.proofs.scans.serve_scan.Given as goal

-- the parts so far are a scan, and the lines of their first pairs are written
abbrev pub invariant-parts : goal.invariant-parts
invariant-parts g l = record {
  known : IsBound l.at;
  more_is : l.more ≡ is_lt (bound_cmp l.at l.to);
  within : l.left ≤ l.most;
  lane : g.O.Ordered.lane l.store ≡ g.O.Ordered.lane l.fn.store;
  sole : g.O.Ordered.sole l.store ≡ g.O.Ordered.sole l.fn.store;
  origin : g.O.Ordered.origin l.store ≡ g.O.Ordered.origin l.fn.store;
  forks : g.O.Ordered.room l.store ≡ g.O.Ordered.room l.fn.store;
  limit : g.P.Patience.limit l.patience ≡ g.P.Patience.limit l.fn.patience;
  fits : (history : List Entry) → g.O.Ordered.fits l.fn.store history → g.O.Ordered.fits l.store history;
  later : g.O.Ordered.refusals l.fn.store ≤ g.O.Ordered.refusals l.store;
  faults : g.K.Sink.faults l.fn.sink ≤ g.K.Sink.faults l.sink;
  connection : g.K.Sink.connection l.sink ≡ g.K.Sink.connection l.fn.sink;
  scan : Follows (g.O.Ordered.stands l.fn.store) (g.O.Ordered.stands l.store)
      (Scans (g.O.Ordered.lane l.fn.store) (g.O.Ordered.sole l.fn.store) l.fn.from l.to l.most l.at l.left (Wrote (g.K.Sink.written l.fn.sink) (g.K.Sink.written l.sink)));
}

abbrev pub decreases-parts : goal.decreases-parts
decreases-parts g l = distance l.at
