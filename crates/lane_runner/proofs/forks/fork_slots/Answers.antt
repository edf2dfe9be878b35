use Rattle.std.proofs.Common.{◌≡◌, [], ◌∷◌, length, refl, sym, ap, ◌∙◌, subst, arith, rules, length-append}
use Rattle.std.proofs.Common.{Err}
use Rattle.std.proofs.lemmas.List.{map-id}
use Rattle.std.proofs.lemmas.Iterator.Consumers.{YieldsList-turn, YieldsList-end}
use Rattle.std.proofs.lemmas.Iterator.Adapters.{YieldsList-from_vec}
use Rattle.map_model.specs.Lanes.{TellsLanes}
use Rattle.lane_runner.specs.Tasks.{IsReady, AreForksOf, HaveSeen}
use Rattle.lane_runner.proofs.Forking.{ready_push, ready_of, ready_seen, refused_forks, forks_leave}
use Rattle.lane_runner.proofs.forks.fork_slots.Goals as goal

pub loop-script-init : goal.loop-script-init
loop-script-init g c =
    let laws = g.met.T.Lanes g.world.𝓛 g.world.𝓜 g.world.𝓡 ((λ s x. x), (λ x. x), (λ x. x), λ x. x) in
    record {
      ready = rw c.in-Ok.ensures.items (omega (arith, laws.above c.args.first.now));
      fits = λ history fit. fit;
      less = omega arith;
      count = refl;
      none = λ none. refl;
      among = λ some. absurd (omega (arith, some));
      seen = refl;
      lane = refl;
      origin = refl;
      lanes = refl;
      len = c.in-Ok.ensures.len;
      capacity = omega (arith, c.in-Ok.ensures.capacity, c.len.ensures);
    }

pub loop-script-preserved : goal.loop-script-preserved
loop-script-preserved g c =
    let laws = g.met.T.Lanes g.world.𝓛 g.world.𝓜 g.world.𝓡 ((λ s x. x), (λ x. x), (λ x. x), λ x. x) in
    let now = c.loop-script.invariant in
    let f = c.in-Ok-fork.ensures in
    let child = f.child in
    let n = c.new.ensures in
    let x = c.new.result in
    let more = length-append c.loop-script.yielded (c.in-Some.script ∷ []) in
    let is : IsReady (g.T.Ordered.origin c.args.first.now) (g.T.Lanes.lanes c.args.first.now) (g.P.Patience.limit c.args.patience) (g.T.Lanes.seen c.args.first.now) c.in-Some.script.items x = record {
      within = omega (arith, laws.within c.in-Ok-fork.lane, n.lane.0, child.same_lanes, now.lanes);
      among = n.lane.1 ∙ child.among;
      same_origin = n.lane.2 ∙ (child.same_origin ∙ now.origin);
      no_room = n.room ∙ child.no_room;
      uncounted = n.seen.1 ∙ child.uncounted;
      same_seen = n.seen.0 ∙ (child.same_seen ∙ now.seen);
      same_limit = n.limit;
      whole = n.script;
      silent = n.output;
    } in
    record {
      ready = rw c.push_reserved.ensures.items (ready_push _ _ _ _ _ _ _ c.loop-script.yielded c.loop-script.slots.items c.in-Some.script x now.ready is (omega (arith, child.above, n.lane.0)) (omega (arith, child.below, n.lane.0)));
      fits = λ history fit. f.fits history (now.fits history fit);
      less = omega (arith, now.less, f.room, more);
      count = f.counted.0 ∙ now.count;
      none = λ none. absurd (omega (arith, none, more));
      among = λ some. f.among;
      seen = f.seen ∙ now.seen;
      lane = f.kept.0 ∙ now.lane;
      origin = f.kept.1 ∙ now.origin;
      lanes = f.kept.2 ∙ now.lanes;
      len = omega (arith, c.push_reserved.ensures.len, now.len, more);
      capacity = omega (arith, c.push_reserved.ensures.capacity, now.capacity);
    }

pub push_reserved-requires : goal.push_reserved-requires
push_reserved-requires g c =
    let now = c.loop-script.invariant in
    let e = c.into_iter-script-iterator.ensures.into_iter_gives in
    let t = YieldsList-turn (YieldsList-from_vec c.args.scripts.items e.0 (e.1 ∙ c.args.scripts.ok.0)) c.loop-script.yielded c.loop-script.script-iterator c.loop-script.yielded_by c.next.result c.next.new.self c.in-Some.script c.in-Some.is c.next.ensures.steps in
    omega (arith, t.0, now.len, now.capacity, c.args.scripts.ok.0)

pub end_unserved-requires : goal.end_unserved-requires
end_unserved-requires g c =
    let now = c.loop-script.invariant in
    let f = c.in-Err-fork.ensures in
    (search rules, (search rules, (subst (λ o. AreForksOf o c.loop-script.slots.items) (sym (f.kept.1 ∙ now.origin)) (ready_of _ _ _ _ _ _ _ _ now.ready), subst (λ h. HaveSeen h c.loop-script.slots.items) (sym (f.seen ∙ now.seen)) (ready_seen _ _ _ _ _ _ _ _ now.ready))))

pub returns-in-Err-clause-room : goal.returns-in-Err-clause-room
returns-in-Err-clause-room g c = tt

pub returns-in-Err-fork-clause-room : goal.returns-in-Err-fork-clause-room
returns-in-Err-fork-clause-room g c =
    let now = c.loop-script.invariant in
    let e = c.into_iter-script-iterator.ensures.into_iter_gives in
    let t = YieldsList-turn (YieldsList-from_vec c.args.scripts.items e.0 (e.1 ∙ c.args.scripts.ok.0)) c.loop-script.yielded c.loop-script.script-iterator c.loop-script.yielded_by c.next.result c.next.new.self c.in-Some.script c.in-Some.is c.next.ensures.steps in
    let f = c.in-Err-fork.ensures in
    refused_forks g.row.T.Denot g.row.T.Denot (g.T.Ordered.room c.loop-script.first) (g.T.Ordered.room c.fork.new.self) _ _ _ c.in-Err-fork.fault f.room
    (λ none. subst (λ m. TellsLanes {T = g.row.T.Denot} m (Err c.in-Err-fork.fault)) now.lanes (f.full none))
    (λ none. omega (arith, none, now.less, t.0, c.args.scripts.ok.0))

pub returns-in-Err-clause-left : goal.returns-in-Err-clause-left
returns-in-Err-clause-left g c = (omega arith, omega arith)

pub returns-in-Err-fork-clause-left : goal.returns-in-Err-fork-clause-left
returns-in-Err-fork-clause-left g c =
    let now = c.loop-script.invariant in
    let e = c.into_iter-script-iterator.ensures.into_iter_gives in
    let t = YieldsList-turn (YieldsList-from_vec c.args.scripts.items e.0 (e.1 ∙ c.args.scripts.ok.0)) c.loop-script.yielded c.loop-script.script-iterator c.loop-script.yielded_by c.next.result c.next.new.self c.in-Some.script c.in-Some.is c.next.ensures.steps in
    let f = c.in-Err-fork.ensures in
    forks_leave g.row.T.Denot g.row.T.Denot (g.T.Ordered.room c.loop-script.first) (g.T.Ordered.room c.fork.new.self) (g.T.Ordered.room c.args.first.now) _ _ _ c.in-Err-fork.fault f.room now.less (omega (arith, t.0, c.args.scripts.ok.0)) c.end_unserved.ensures.room

pub returns-in-Err-fork-clause-alone : goal.returns-in-Err-fork-clause-alone
returns-in-Err-fork-clause-alone g c =
    let e = c.into_iter-script-iterator.ensures.into_iter_gives in
    let t = YieldsList-turn (YieldsList-from_vec c.args.scripts.items e.0 (e.1 ∙ c.args.scripts.ok.0)) c.loop-script.yielded c.loop-script.script-iterator c.loop-script.yielded_by c.next.result c.next.new.self c.in-Some.script c.in-Some.is c.next.ensures.steps in
    λ none. absurd (omega (arith, none, t.0, c.args.scripts.ok.0))

pub returns-clause-ready : goal.returns-clause-ready
returns-clause-ready g c =
    let now = c.loop-script.invariant in
    let e = c.into_iter-script-iterator.ensures.into_iter_gives in
    let t = YieldsList-end (YieldsList-from_vec c.args.scripts.items e.0 (e.1 ∙ c.args.scripts.ok.0)) c.loop-script.yielded c.loop-script.script-iterator c.loop-script.yielded_by c.next.result c.next.new.self c.in-None.is c.next.ensures.steps in
    let same : c.loop-script.yielded ≡ c.args.scripts.items = sym (map-id c.loop-script.yielded) ∙ t.0 in
    (g.T.Lanes.next c.loop-script.first, rw same at now.ready)

pub returns-clause-room : goal.returns-clause-room
returns-clause-room g c =
    let now = c.loop-script.invariant in
    let e = c.into_iter-script-iterator.ensures.into_iter_gives in
    let t = YieldsList-end (YieldsList-from_vec c.args.scripts.items e.0 (e.1 ∙ c.args.scripts.ok.0)) c.loop-script.yielded c.loop-script.script-iterator c.loop-script.yielded_by c.next.result c.next.new.self c.in-None.is c.next.ensures.steps in
    let same : c.loop-script.yielded ≡ c.args.scripts.items = sym (map-id c.loop-script.yielded) ∙ t.0 in
    omega (arith, now.less, ap length same, c.args.scripts.ok.0)

pub returns-clause-left : goal.returns-clause-left
returns-clause-left g c =
    let now = c.loop-script.invariant in
    let e = c.into_iter-script-iterator.ensures.into_iter_gives in
    let t = YieldsList-end (YieldsList-from_vec c.args.scripts.items e.0 (e.1 ∙ c.args.scripts.ok.0)) c.loop-script.yielded c.loop-script.script-iterator c.loop-script.yielded_by c.next.result c.next.new.self c.in-None.is c.next.ensures.steps in
    let same : c.loop-script.yielded ≡ c.args.scripts.items = sym (map-id c.loop-script.yielded) ∙ t.0 in
    omega (arith, now.less, ap length same, c.args.scripts.ok.0)

pub returns-clause-among : goal.returns-clause-among
returns-clause-among g c =
    let now = c.loop-script.invariant in
    let e = c.into_iter-script-iterator.ensures.into_iter_gives in
    let t = YieldsList-end (YieldsList-from_vec c.args.scripts.items e.0 (e.1 ∙ c.args.scripts.ok.0)) c.loop-script.yielded c.loop-script.script-iterator c.loop-script.yielded_by c.next.result c.next.new.self c.in-None.is c.next.ensures.steps in
    let same : c.loop-script.yielded ≡ c.args.scripts.items = sym (map-id c.loop-script.yielded) ∙ t.0 in
    λ some. now.among (omega (arith, some, ap length same, c.args.scripts.ok.0))

pub returns-clause-alone : goal.returns-clause-alone
returns-clause-alone g c =
    let now = c.loop-script.invariant in
    let e = c.into_iter-script-iterator.ensures.into_iter_gives in
    let t = YieldsList-end (YieldsList-from_vec c.args.scripts.items e.0 (e.1 ∙ c.args.scripts.ok.0)) c.loop-script.yielded c.loop-script.script-iterator c.loop-script.yielded_by c.next.result c.next.new.self c.in-None.is c.next.ensures.steps in
    let same : c.loop-script.yielded ≡ c.args.scripts.items = sym (map-id c.loop-script.yielded) ∙ t.0 in
    λ none. now.none (omega (arith, none, ap length same, c.args.scripts.ok.0))
