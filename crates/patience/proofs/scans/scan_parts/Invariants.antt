use Rattle.std.proofs.Common.{◌≡◌, List, true}
use Rattle.std.specs.Fn.{CalledAtTwo}
use Rattle.std.specs.Ordering.{is_lt}
use Rattle.key_bytes.specs.Bound.{bound_cmp, IsBound}
use Rattle.key_bytes.specs.Ranks.{distance}
use Rattle.map_model.specs.History.{Entry}
use Rattle.map_model.specs.Ordered.{Follows}
use Rattle.patience.specs.Scans.{Hands}
use Rattle.patience.proofs.scans.scan_parts.Given as goal

-- the parts so far tile the range up to here, and their pairs were handed on
abbrev pub invariant-parts : goal.invariant-parts
invariant-parts g l = record {
  known : IsBound l.at;
  more : l.more ≡ is_lt (bound_cmp l.at l.to);
  callable : goal.F-IsAlwaysCallable g l.each;
  lane : g.O.Ordered.lane l.store ≡ g.O.Ordered.lane l.fn.store;
  sole : g.O.Ordered.sole l.store ≡ g.O.Ordered.sole l.fn.store;
  origin : g.O.Ordered.origin l.store ≡ g.O.Ordered.origin l.fn.store;
  forks : g.O.Ordered.room l.store ≡ g.O.Ordered.room l.fn.store;
  limit : g.P.Patience.limit l.patience ≡ g.P.Patience.limit l.fn.patience;
  fits : (history : List Entry) → g.O.Ordered.fits l.fn.store history → g.O.Ordered.fits l.store history;
  scan : Follows (g.O.Ordered.stands l.fn.store) (g.O.Ordered.stands l.store) (Hands (CalledAtTwo g.F.FnMut) (g.O.Ordered.lane l.fn.store) (g.O.Ordered.sole l.fn.store) l.from l.to l.at l.fn.each true l.each);
}

abbrev pub decreases-parts : goal.decreases-parts
decreases-parts g l = distance l.at
