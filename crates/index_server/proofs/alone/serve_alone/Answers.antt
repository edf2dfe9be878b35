use Rattle.std.proofs.Common.{◌≡◌, ◌<◌, ◌≤◌, ◌∙◌, sym, arith, rules}
use Rattle.index_server.proofs.Serving.{serves_rested, serves_more}
use Rattle.index_server.proofs.alone.serve_alone.Goals as goal

pub loop-init : goal.loop-init
loop-init g c =
    let rest = c.rest.ensures in
    record {
      can = search rules;
      finite = search rules;
      serves = serves_rested _ _ _ _ _ _ _ _ _ _ (λ h stood. g.met.T.Ordered.stands_legal _ h stood) rest.counted.0 rest.counted.1 rest.seen;
      lane = rest.kept.0;
      sole = rest.kept.1;
      origin = rest.kept.2;
      forks = rest.forks;
      fits = rest.fits;
      closings = omega arith;
      most = omega arith;
      opened = λ some. (omega arith, omega arith);
      returned = (omega arith, omega arith, omega arith);
      faults = omega arith;
    }

-- no connection came
pub loop-preserved : goal.loop-preserved
loop-preserved g c =
    let now = c.loop.invariant in
    let opened : g.D.Door.opened c.accept.new.self ≡ g.D.Door.opened c.loop.door = c.in-Err-NoMemory.ensures.opened in
    let cause : g.D.Door.faults c.loop.door ≤ g.D.Door.faults c.accept.new.self = rw c.in-Err-NoMemory.field-0-is at c.in-Err-NoMemory.ensures.cause in
    record {
      can = search rules;
      finite = search rules;
      serves = rw c.accept.ensures.closed now.serves;
      lane = now.lane;
      sole = now.sole;
      origin = now.origin;
      forks = now.forks;
      fits = now.fits;
      closings = omega (arith, now.closings, c.accept.ensures.closings);
      most = omega (arith, now.most, c.accept.ensures.closings);
      opened = λ some. let o = now.opened some in (omega (arith, o.0, opened), o.1);
      returned =
          let r = now.returned in
          (omega (arith, r.0, opened), omega (arith, r.0, r.1, opened, c.accept.ensures.closings), omega (arith, r.0, r.2, opened, c.accept.ensures.closings));
      faults = omega (arith, now.faults, cause);
    }

-- one more was served
pub loop-preserved-in-Ok : goal.loop-preserved-in-Ok
loop-preserved-in-Ok g c =
    let now = c.loop.invariant in
    let one = c.serve_connection.ensures in
    record {
      can = search rules;
      finite = search rules;
      serves = serves_more _ _ _ _ _ _ _ _ _ _ _ _ _ _ _ _ one.session.0 _ _ _ _ _ now.fits c.in-Ok.ensures.unread c.in-Ok.ensures.unwritten c.finish.ensures.past (rw c.accept.ensures.closed at c.close.ensures.closed) (rw (now.lane, now.sole) at one.session.1) now.serves;
      lane = one.kept.0 ∙ now.lane;
      sole = one.kept.1 ∙ now.sole;
      origin = one.kept.2 ∙ now.origin;
      forks = one.forks ∙ now.forks;
      fits = λ h fit. one.fits h (now.fits h fit);
      closings = omega (arith, now.closings, c.accept.ensures.closings, c.close.ensures.closings, c.raise-closed.ensures.value);
      most = omega (arith, now.most, c.accept.ensures.closings, c.close.ensures.closings, c.raise-closed.ensures.value);
      opened = λ some.
          let o = now.opened some in
          let less : c.loop.closed < c.args.sessions = omega (arith, some, o.1, c.else-sessions-ne0) in
          (omega (arith, o.0, less, c.in-Ok.ensures.opened, c.close.ensures.opened, c.raise-closed.ensures.value), omega (arith, less, c.raise-closed.ensures.value));
      returned =
          let r = now.returned in
          (omega (arith, r.0, c.in-Ok.ensures.opened, c.close.ensures.opened), omega (arith, r.0, r.1, c.in-Ok.ensures.opened, c.close.ensures.opened, c.accept.ensures.closings, c.close.ensures.closings), omega (arith, r.0, r.2, c.in-Ok.ensures.opened, c.close.ensures.opened, c.accept.ensures.closings, c.close.ensures.closings));
      faults = omega (arith, now.faults, c.in-Ok.ensures.cause, c.close.ensures.kept);
    }

pub returns-in-Err-Failed-clause-served : goal.returns-in-Err-Failed-clause-served
returns-in-Err-Failed-clause-served g c = rw c.accept.ensures.closed c.loop.invariant.serves
