use Rattle.std.proofs.Common.{◌≡◌, refl, ◌∙◌, arith, rules}
use Rattle.index_server.proofs.Serving.{counted_rested, counted_more}
use Rattle.index_server.proofs.workers.work.Goals as goal

pub loop-init : goal.loop-init
loop-init g c =
    let rest = c.rest.ensures in
    record {
      can = search rules;
      finite = search rules;
      served = counted_rested _ _ _ _ _ _ _ _ _ (λ h stood. g.met.T.Ordered.stands_legal _ h stood) rest.counted.0 rest.counted.1 (omega arith) rest.seen;
      more = omega arith;
      parts = refl;
      lane = rest.kept.0;
      sole = rest.kept.1;
      origin = rest.kept.2;
      room = rest.forks;
    }

-- one connection more
pub loop-preserved-in-Serve : goal.loop-preserved-in-Serve
loop-preserved-in-Serve g c =
    let now = c.loop.invariant in
    let one = c.serve_connection.ensures in
    let added = c.close.ensures in
    record {
      can = search rules;
      finite = search rules;
      served = counted_more _ _ _ _ _ _ _ _ _ _ _ _ _ _ one.session.0 _ _ _ _ (omega (arith, now.more, added.counted)) (rw (now.lane, now.sole) at one.session.1) now.served;
      more = omega (arith, now.more, added.counted);
      parts = added.part ∙ now.parts;
      lane = one.kept.0 ∙ now.lane;
      sole = one.kept.1 ∙ now.sole;
      origin = one.kept.2 ∙ now.origin;
      room = one.forks ∙ now.room;
    }
