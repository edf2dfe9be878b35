use Rattle.std.proofs.Common.{sym, ap, ◌∙◌, refl, false, true, Bool, ◌≡◌}
use Rattle.std.proofs.lemmas.Result.{on_err_weaker}
use Rattle.std.specs.Fn.{CalledAtTwo}
use Rattle.std.specs.Ordering.{is_lt}
use Rattle.key_bytes.proofs.Ranks.{distance_falls}
use Rattle.key_bytes.proofs.Orders.{less_from}
use Rattle.patience.proofs.Scanning.{on_err, scan_cut, scan_more, scan_done, scan_refused}
use Rattle.patience.proofs.scans.scan_parts.Goals as goal

pub returns-in_err-at-clause-refused : goal.returns-in_err-at-clause-refused
returns-in_err-at-clause-refused g c = on_err c.from_residual.result _ (scan_cut (CalledAtTwo g.F.FnMut) _ _ _ _ _ _ (λ old history. g.met.O.Ordered.stands_legal _ old history))

pub returns-then-not-hand_on-clause-ok : goal.returns-then-not-hand_on-clause-ok
returns-then-not-hand_on-clause-ok g c =
    let now = c.parts.invariant in
    let part = c.in-Ok.ensures in
    scan_done (CalledAtTwo g.F.FnMut) _ _ _ _ _ _ c.in-Ok.upto _ c.hand_on.new.each false (λ e. absurd (cc e))
    (scan_more (CalledAtTwo g.F.FnMut) _ _ _ _ _ _ _ _ _ _ _ _ _ false now.scan (rw (now.lane, now.sole) at part.ok) part.above part.within c.if-not-hand_on.ensures.handed)

pub parts-smaller : goal.parts-smaller
parts-smaller g c = distance_falls _ _ c.parts.invariant.known c.order-in-Ok.ensures.bounds.0 c.in-Ok.ensures.above

pub parts-preserved : goal.parts-preserved
parts-preserved g c =
    let now = c.parts.invariant in
    let part = c.in-Ok.ensures in record {
      known = c.order-in-Ok.ensures.bounds.0;
      more = c.is_lt-more-in-Ok.ensures ∙ ap is_lt c.order-in-Ok.ensures.order;
      callable = c.hand_on.ensures.callable;
      lane = part.kept.0 ∙ now.lane;
      sole = part.kept.1 ∙ now.sole;
      origin = part.kept.2 ∙ now.origin;
      forks = part.forks ∙ now.forks;
      limit = part.kept.3 ∙ now.limit;
      fits = λ history fit. part.fits history (now.fits history fit);
      scan = scan_more (CalledAtTwo g.F.FnMut) _ _ _ _ _ _ _ _ _ _ _ _ _ true now.scan (rw (now.lane, now.sole) at part.ok) part.above part.within c.if-not-hand_on.ensures.handed;
    }

pub returns-in-Err-clause-refused : goal.returns-in-Err-clause-refused
returns-in-Err-clause-refused g c =
    let now = c.parts.invariant in
    scan_refused (CalledAtTwo g.F.FnMut) _ _ _ _ _ _ _ _ _ _ now.scan (rw (now.lane, now.sole) at c.in-Err.ensures.refused)
