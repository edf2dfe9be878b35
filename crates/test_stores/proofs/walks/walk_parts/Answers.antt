use Rattle.std.proofs.Common.{sym, ap, ◌∙◌, refl, ◌++◌}
use Rattle.std.specs.Ordering.{is_lt}
use Rattle.key_bytes.proofs.Ranks.{distance_falls}
use Rattle.key_bytes.proofs.Orders.{less_from}
use Rattle.test_stores.proofs.Walking.{on_err, walk_refused, walk_cut, walks_more, walks_none, walks_upto, at_last}
use Rattle.test_stores.proofs.walks.walk_parts.Goals as goal

pub parts-init : goal.parts-init
parts-init g c = record {
  known = c.order.ensures.bounds.0;
  less = c.requires;
  lane = refl;
  sole = refl;
  count = refl;
  walk = walks_none _ _ _ _ _ _ (λ old history. g.met.O.Ordered.stands_legal _ old history);
}

pub returns-in_err-upto-clause-refused : goal.returns-in_err-upto-clause-refused
returns-in_err-upto-clause-refused g c =
    let now = c.parts.invariant in
    on_err c.from_residual.result _ (walk_refused _ _ _ _ _ _ _ _ _ _ now.walk (rw (now.lane, now.sole) at c.in_err-upto.ensures.refused))

pub parts-smaller : goal.parts-smaller
parts-smaller g c = distance_falls _ _ c.parts.invariant.known c.order-order.ensures.bounds.0 c.in_ok-upto.ensures.above

pub parts-preserved : goal.parts-preserved
parts-preserved g c =
    let now = c.parts.invariant in
    let part = c.in_ok-upto.ensures in record {
      known = c.order-order.ensures.bounds.0;
      less = less_from _ (ap is_lt (sym c.order-order.ensures.order) ∙ (sym c.is_lt.ensures ∙ c.if-not-is_lt.false));
      lane = part.kept.0 ∙ now.lane;
      sole = part.kept.1 ∙ now.sole;
      count = part.counted.0 ∙ now.count;
      walk = walks_more _ _ _ _ _ _ _ _ _ _ _ _ _ now.walk (rw (now.lane, now.sole) at part.ok) part.above part.within c.in_ok-add_all.ensures;
    }

pub returns-in_err-add_all-clause-refused : goal.returns-in_err-add_all-clause-refused
returns-in_err-add_all-clause-refused g c =
    let now = c.parts.invariant in
    let part = c.in_ok-upto.ensures in
    on_err c.from_residual-in_err-add_all.result _ (walk_cut _ _ _ _ _ _ _ _ _ (walks_more _ _ _ _ _ _ _ _ _ _ _ (_ ++ c.part.new.page.pairs) _ now.walk (rw (now.lane, now.sole) at part.ok) part.above part.within refl))

pub returns-then-not-is_lt-clause-ok : goal.returns-then-not-is_lt-clause-ok
returns-then-not-is_lt-clause-ok g c =
    let now = c.parts.invariant in
    let part = c.in_ok-upto.ensures in
    let last = at_last c.in_ok-upto.upto c.args.to.now (ap is_lt (sym c.order-order.ensures.order) ∙ (sym c.is_lt.ensures ∙ c.if-not-is_lt.true)) part.within in
    walks_upto _ _ _ _ _ _ _ _ _ _ last (walks_more _ _ _ _ _ _ _ _ _ _ _ _ _ now.walk (rw (now.lane, now.sole) at part.ok) part.above part.within c.in_ok-add_all.ensures)
