use Rattle.std.proofs.Common.{◌≡◌, ◌+◌, [], refl, subst, ap, arith, sym, ◌∙◌, rules}
use Rattle.map_model.specs.History.{own}
use Rattle.map_model.proofs.Histories.{begins_itself, begins_trans}
use Rattle.lane_runner.specs.Tasks.{AreForksOf}
use Rattle.lane_runner.proofs.Running.{of_split}
use Rattle.lane_runner.proofs.Ending.{ended_none, ended_more, ended_all}
use Rattle.lane_runner.proofs.forks.end_served.Goals as goal

pub slots-init : goal.slots-init
slots-init g c = record {
  lane = refl;
  sole = refl;
  forks = refl;
  origin = refl;
  of = c.requires.origin;
  begins = begins_itself _;
  mine = refl;
  none = λ none. refl;
  less = omega arith;
  len = refl;
  room = refl;
  ended = λ most limit before upto scripts done none. rw none (ended_none _ most limit before _ upto scripts _ _ _ done);
}

pub end-requires : goal.end-requires
end-requires g c =
    let now = c.slots.invariant in
    let of = of_split _ _ _ (subst (AreForksOf (g.T.Ordered.origin c.args.first.now)) c.in-Some.ensures.items now.of) in
    c.finish-lane.ensures.lane.1 ∙ (of.1 ∙ sym now.origin)

pub slots-preserved : goal.slots-preserved
slots-preserved g c =
    let now = c.slots.invariant in
    let laws = g.met.T.Lanes g.world.𝓛 g.world.𝓜 g.world.𝓡 ((λ s x. x), (λ x. x), (λ x. x), λ x. x) in
    let of = of_split _ _ _ (subst (AreForksOf (g.T.Ordered.origin c.args.first.now)) c.in-Some.ensures.items now.of) in
    let e = c.end.ensures in
    let f = c.finish-lane.ensures in
    let slot = c.in-Some.slot in
    let it = e.ended (g.T.Ordered.lane c.finish-lane.result.0) (laws.has_own c.finish-lane.result.0) in
    let first = e.into (g.T.Ordered.lane c.slots.first) (laws.has_own c.slots.first) in
    record {
      lane = e.kept.0 ∙ now.lane;
      sole = e.kept.1 ∙ now.sole;
      forks = omega (arith, e.room.0, e.room.1, f.room, of.2, now.forks);
      origin = e.kept.2 ∙ now.origin;
      of = of.0;
      begins = begins_trans _ _ _ now.begins e.begins.0;
      mine = subst (λ n. own n (g.T.Lanes.seen c.end.new.into) ≡ own n (g.T.Lanes.seen c.slots.first)) now.lane first.1 ∙ now.mine;
      none = λ none. absurd (omega (arith, none, now.less, c.in-Some.ensures.cases));
      less = omega (arith, now.less, c.in-Some.ensures.cases);
      len = omega (arith, now.len, c.in-Some.ensures.cases, c.push_reserved.ensures.len);
      room = c.push_reserved.ensures.capacity ∙ now.room;
      ended = λ most limit before upto scripts done none.
          rw c.push_reserved.ensures.items (ended_more (g.T.Lanes.has_all c.slots.first) (g.T.Lanes.has_all c.end.new.into) most limit before (g.T.Ordered.lane c.args.first.now + 1) scripts c.pop.new.self.items slot c.slots.ends.items c.finish-lane.result.1 (g.T.Ordered.refusals c.args.first.now) (g.T.Ordered.refusals c.slots.first) (g.T.Ordered.refusals c.end.new.into) (g.T.Lanes.seen c.slots.first) (g.T.Lanes.seen c.end.new.into)
          f.end.1 f.end.0 (rw f.lane.2 at e.counted.0)
          (subst (λ n. own n (g.T.Lanes.seen c.end.new.into) ≡ own n slot.seen) f.lane.0 (it.1 ∙ ap (own (g.T.Ordered.lane c.finish-lane.result.0)) f.lane.3))
          (subst (g.T.Lanes.has_all c.end.new.into) f.lane.0 it.0)
          e.into (rw c.in-Some.ensures.items at (now.ended most limit before upto scripts done none)));
    }

pub returns-clause-ended : goal.returns-clause-ended
returns-clause-ended g c =
    let now = c.slots.invariant in
    let nil : c.slots.slots.items ≡ [] = search rules in
    λ most limit before upto scripts done none. ended_all _ most limit before _ scripts _ _ _ _ (rw nil at (now.ended most limit before upto scripts done none))
