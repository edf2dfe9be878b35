use Rattle.std.proofs.Common.{◌≡◌, refl, sym, ◌∙◌, subst, arith, rules}
use Rattle.std.proofs.Common.{Err}
use Rattle.map_model.specs.Lanes.{TellsLanes}
use Rattle.index_server.specs.Hands.{AreForksOf, HaveSeen}
use Rattle.index_server.proofs.Forking.{refused_fork, refused_left}
use Rattle.index_server.proofs.Working.{ready_push, ready_of, ready_seen}
use Rattle.index_server.proofs.forks.fork_workers.Goals as goal

pub loop-init : goal.loop-init
loop-init g c =
    let laws = g.met.T.Lanes g.world.𝓛 g.world.𝓜 g.world.𝓡 ((λ s x. x), (λ x. x), (λ x. x), λ x. x) in
    record {
      ready = rw c.in-Ok.ensures.items (omega (arith, laws.above c.args.first.now));
      less = omega arith;
      parts = omega (arith, c.requires.parts);
      uncounted = c.requires.uncounted;
      among = λ some. absurd (omega (arith, some));
      len = c.in-Ok.ensures.len;
      capacity = omega (arith, c.in-Ok.ensures.capacity);
      seen = refl;
      lane = refl;
      origin = refl;
      lanes = refl;
    }

pub loop-preserved : goal.loop-preserved
loop-preserved g c =
    let now = c.loop.invariant in
    let laws = g.met.T.Lanes g.world.𝓛 g.world.𝓜 g.world.𝓡 ((λ s x. x), (λ x. x), (λ x. x), λ x. x) in
    let f = c.in-Ok-fork.ensures in
    let w = c.new.ensures in
    let s = c.split_off.ensures in
    record {
      ready = rw c.push_reserved.ensures.items (ready_push _ _ _ _ _ _ _ _ now.ready
          (record {
            within = omega (arith, laws.within c.in-Ok-fork.lane, w.lane.0, f.child.same_lanes, now.lanes);
            among = w.lane.1 ∙ f.child.among;
            same_origin = w.lane.2 ∙ (f.child.same_origin ∙ now.origin);
            no_room = w.lane.3 ∙ f.child.no_room;
            same_seen = w.lane.4 ∙ (f.child.same_seen ∙ now.seen);
            uncounted = w.share ∙ s.amount;
          })
          (omega (arith, w.lane.0, f.child.above)) (omega (arith, w.lane.0, f.child.below)));
      less = omega (arith, now.less, f.room);
      parts = omega (arith, now.parts, s.parts_left);
      uncounted = omega (arith, now.uncounted, s.amount_left);
      among = λ some. f.among;
      len = omega (arith, c.push_reserved.ensures.len, now.len);
      capacity = omega (arith, c.push_reserved.ensures.capacity, now.capacity);
      seen = f.seen ∙ now.seen;
      lane = f.kept.0 ∙ now.lane;
      origin = f.kept.1 ∙ now.origin;
      lanes = f.kept.2 ∙ now.lanes;
    }

pub push_reserved-requires : goal.push_reserved-requires
push_reserved-requires g c = omega (arith, c.loop.invariant.len, c.loop.invariant.capacity, c.loop-test.true)

pub end_workers-requires : goal.end_workers-requires
end_workers-requires g c =
    let now = c.loop.invariant in
    (search rules, subst (λ o. AreForksOf o c.loop.workers.items) (sym (c.in-Err-fork.ensures.kept.1 ∙ now.origin)) (ready_of _ _ _ _ _ _ now.ready))

pub returns-in-Err-clause-refused : goal.returns-in-Err-clause-refused
returns-in-Err-clause-refused g c = c.requires.some

pub returns-in-Err-fork-clause-refused : goal.returns-in-Err-fork-clause-refused
returns-in-Err-fork-clause-refused g c =
    let now = c.loop.invariant in
    let f = c.in-Err-fork.ensures in
    refused_fork g.row.T.Denot (g.T.Ordered.room c.loop.first) (g.T.Ordered.room c.fork.new.self) _ _ _ c.in-Err-fork.fault f.room
    (λ none. subst (λ m. TellsLanes {T = g.row.T.Denot} m (Err c.in-Err-fork.fault)) now.lanes (f.full none))
    (λ none. omega (arith, none, now.less, c.loop-test.true)) c.requires.some

pub returns-in-Err-clause-left : goal.returns-in-Err-clause-left
returns-in-Err-clause-left g c = (omega arith, omega arith)

pub returns-in-Err-fork-clause-left : goal.returns-in-Err-fork-clause-left
returns-in-Err-fork-clause-left g c =
    let now = c.loop.invariant in
    refused_left g.row.T.Denot (g.T.Ordered.room c.loop.first) (g.T.Ordered.room c.fork.new.self) (g.T.Ordered.room c.args.first.now) c.loop.counter _ _ c.in-Err-fork.fault c.in-Err-fork.ensures.room now.less (omega (arith, c.loop-test.true)) c.end_workers.ensures.room

pub returns-in-Err-fork-clause-kept : goal.returns-in-Err-fork-clause-kept
returns-in-Err-fork-clause-kept g c =
    let now = c.loop.invariant in
    let f = c.in-Err-fork.ensures in
    let e = c.end_workers.ensures in
    let seen = f.seen ∙ now.seen in
    (e.same (subst (λ h. HaveSeen h c.loop.workers.items) (sym seen) (ready_seen _ _ _ _ _ _ now.ready)) ∙ seen, e.kept.0 ∙ (f.kept.0 ∙ now.lane), e.kept.2 ∙ (f.kept.1 ∙ now.origin))
