use Rattle.std.proofs.Common.{◌≡◌, ◌-◌, ◌==◌, ◌||◌, not, Some, None, refl, sym, ap, ◌∙◌, subst, arith, false, true, ◌<◌}
use Rattle.std.specs.Ordering.{is_lt}
use Rattle.key_bytes.specs.Bound.{bound_cmp}
use Rattle.key_bytes.proofs.Ranks.{distance_falls}
use Rattle.outside.proofs.Pieces.{wrote_none, wrote_more}
use Rattle.session.specs.Scans.{EndsScan}
use Rattle.session.specs.Replies.{end_line, refusal_line}
use Rattle.session.proofs.Gaining.{gained_behind}
use Rattle.session.proofs.Scanning.{scans_none, scans_more, scans_stay, scan_ends, scan_torn, may_break, wanted_from}
use Rattle.session.proofs.scans.serve_scan.Goals as goal

pub parts-init : goal.parts-init
parts-init g c = record {
  known = c.order.ensures.bounds.0;
  more_is = c.is_lt-more.ensures ∙ ap is_lt c.order.ensures.order;
  within = omega arith;
  lane = refl;
  sole = refl;
  origin = refl;
  forks = refl;
  limit = refl;
  fits = λ history fit. fit;
  later = omega arith;
  faults = omega arith;
  connection = refl;
  scan = scans_none _ _ _ _ _ _ _ (λ old history. g.met.O.Ordered.stands_legal _ old history) (wrote_none _);
}

pub returns-then-is_over-clause-served : goal.returns-then-is_over-clause-served
returns-then-is_over-clause-served g c =
    let now = c.parts.invariant in
    let count = c.args.most - c.parts.left in
    let over : (not (is_lt (bound_cmp c.parts.at c.args.to.now)) || (c.parts.left == 0)) ≡ true = ap (λ m. not m || (c.parts.left == 0)) (sym now.more_is) ∙ (sym c.is_over.ensures ∙ c.if-is_over.true) in
    scan_ends _ _ _ _ _ _ _ _ _ _ _ _ _ c.parts.at c.parts.left _ _ _ _ (end_line count) None (λ xs wrote. gained_behind c.reply.result _ _ _ xs _ wrote c.reply.ensures.gained) (omega (arith, now.later)) tt
    (subst (λ b. EndsScan (g.P.Patience.limit c.args.patience.now) (g.O.Ordered.sole c.args.store.now) b count (end_line count) None) (sym over) (refl, refl)) now.scan

pub parts-smaller : goal.parts-smaller
parts-smaller g c = distance_falls _ _ c.parts.invariant.known c.order-in-Ok.ensures.bounds.0 c.in-Ok.ensures.above

pub parts-preserved : goal.parts-preserved
parts-preserved g c =
    let now = c.parts.invariant in
    let part = c.in-Ok.ensures in
    let wanted : 0 < c.parts.left = wanted_from c.parts.more c.parts.left (sym c.is_over.ensures ∙ c.if-is_over.false) in record {
      known = c.order-in-Ok.ensures.bounds.0;
      more_is = c.is_lt-more-in-Ok.ensures ∙ ap is_lt c.order-in-Ok.ensures.order;
      within = omega (arith, now.within);
      lane = part.kept.0 ∙ now.lane;
      sole = part.kept.1 ∙ now.sole;
      origin = part.kept.2 ∙ now.origin;
      forks = part.forks ∙ now.forks;
      limit = part.kept.3 ∙ now.limit;
      fits = λ history fit. part.fits history (now.fits history fit);
      later = omega (arith, now.later, part.told);
      faults = omega (arith, now.faults, c.in-Ok-write_pairs.ensures.cause);
      connection = c.in-Ok-write_pairs.ensures.kept ∙ now.connection;
      scan = scans_more _ _ _ _ _ _ _ _ _ _ c.parts.left _ c.part_patiently.new.page.pairs _ _ (λ xs wrote. wrote_more _ _ _ xs _ wrote c.in-Ok-write_pairs.ensures.gained)
          part.above part.within wanted (omega (arith, c.in-Ok-write_pairs.ensures.count)) now.scan (rw (now.lane, now.sole) at part.ok);
    }

pub returns-in-Err-write_pairs-clause-served : goal.returns-in-Err-write_pairs-clause-served
returns-in-Err-write_pairs-clause-served g c =
    let now = c.parts.invariant in
    let part = c.in-Ok.ensures in
    let wanted : 0 < c.parts.left = wanted_from c.parts.more c.parts.left (sym c.is_over.ensures ∙ c.if-is_over.false) in
    scan_torn _ _ _ _ _ _ _ _ _ _ _ _ _ _ _ _ c.parts.left c.part_patiently.new.page.pairs _ _ _ part.above part.within wanted (omega (arith, now.later, part.told)) c.in-Err-write_pairs.ensures.gained now.scan (rw (now.lane, now.sole) at part.ok)

pub returns-in-Err-clause-served : goal.returns-in-Err-clause-served
returns-in-Err-clause-served g c =
    let now = c.parts.invariant in
    let part = c.in-Err.ensures in
    let count = c.args.most - c.parts.left in
    let refusal = c.in-Err.refusal in
    let told = rw (now.limit, now.sole) at part.told in
    let open_still : (not (is_lt (bound_cmp c.parts.at c.args.to.now)) || (c.parts.left == 0)) ≡ false = ap (λ m. not m || (c.parts.left == 0)) (sym now.more_is) ∙ (sym c.is_over.ensures ∙ c.if-is_over.false) in
    scan_ends _ _ _ _ _ _ _ _ _ _ _ _ _ c.parts.at c.parts.left _ _ _ _ (refusal_line refusal) (Some refusal) (λ xs wrote. gained_behind c.refuse.result _ _ _ xs _ wrote c.refuse.ensures.gained) (omega (arith, now.later, told.1.rose)) told.1.is_last
    (subst (λ b. EndsScan (g.P.Patience.limit c.args.patience.now) (g.O.Ordered.sole c.args.store.now) b count (refusal_line refusal) (Some refusal)) (sym open_still) (refusal, may_break _ _ refusal part.room told.1.may, refl, refl))
    (scans_stay _ _ _ _ _ _ _ _ _ _ _ now.scan (rw (now.lane, now.sole) at part.refused))
