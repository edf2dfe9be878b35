use Rattle.std.proofs.Common.{◌≡◌, ◌≤◌, ◌-◌, List}
use Rattle.map_model.specs.History.{Entry}
use Rattle.session.proofs.SessionSteps.{Going}
use Rattle.session.proofs.session.serve_reads.Given as goal

abbrev pub invariant-reads : goal.invariant-reads
invariant-reads g l = record {
  session : Going l.taken l.lines (g.S.Source.told l.fn.source) (g.S.Source.told l.source) (g.K.Sink.written l.fn.sink) (g.K.Sink.written l.sink)
      (g.P.Patience.limit l.fn.patience) (g.O.Ordered.lane l.fn.store) (g.O.Ordered.sole l.fn.store) (g.O.Ordered.fits l.fn.store) (g.O.Ordered.refusals l.fn.store) (g.O.Ordered.refusals l.store) (g.O.Ordered.last l.fn.store) (g.O.Ordered.last l.store) (g.O.Ordered.stands l.fn.store) (g.O.Ordered.stands l.store);
  within : l.taken ≤ l.budget;
  lane : g.O.Ordered.lane l.store ≡ g.O.Ordered.lane l.fn.store;
  sole : g.O.Ordered.sole l.store ≡ g.O.Ordered.sole l.fn.store;
  origin : g.O.Ordered.origin l.store ≡ g.O.Ordered.origin l.fn.store;
  forks : g.O.Ordered.room l.store ≡ g.O.Ordered.room l.fn.store;
  limit : g.P.Patience.limit l.patience ≡ g.P.Patience.limit l.fn.patience;
  fits : (history : List Entry) → g.O.Ordered.fits l.fn.store history → g.O.Ordered.fits l.store history;
  reads : g.S.Source.faults l.fn.source ≤ g.S.Source.faults l.source;
  writes : g.K.Sink.faults l.fn.sink ≤ g.K.Sink.faults l.sink;
  source : g.S.Source.connection l.source ≡ g.S.Source.connection l.fn.source;
  sink : g.K.Sink.connection l.sink ≡ g.K.Sink.connection l.fn.sink;
}

abbrev pub decreases-reads : goal.decreases-reads
decreases-reads g l = l.budget - l.taken
