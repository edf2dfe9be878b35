use Rattle.std.proofs.Common.{◌≡◌, ◌+◌, ◌-◌, [], refl, subst, ap, arith, sym, ◌∙◌, ⊎_elim, rules, vec_len}
use Rattle.map_model.specs.History.{own}
use Rattle.map_model.proofs.Histories.{begins_itself, begins_trans}
use Rattle.index_server.specs.Hands.{AreForksOf, HaveSeen}
use Rattle.index_server.proofs.Working.{Ended, of_split, seen_split, ended_none, ended_more, ended_all}
use Rattle.index_server.proofs.forks.end_workers.Goals as goal

pub workers-init : goal.workers-init
workers-init g c = record {
  lane = refl;
  sole = refl;
  origin = refl;
  of = c.requires;
  room = refl;
  begins = begins_itself _;
  mine = refl;
  less = omega arith;
  more = omega arith;
  parts = refl;
  same = λ all. (refl, all);
  ended = λ most before upto done.
      let none : vec_len c.args.workers - vec_len c.args.workers ≡ 0 = omega arith in
      let same : c.args.all.now.amount - c.args.all.now.amount ≡ 0 = omega arith in
      rw (none, same) (ended_none _ most before _ upto _ _ done);
}

pub end-requires : goal.end-requires
end-requires g c =
    let now = c.workers.invariant in
    let of = of_split _ _ _ (subst (AreForksOf (g.T.Ordered.origin c.args.first.now)) c.in-Some.ensures.items now.of) in
    c.finish-lane.ensures.lane.2 ∙ (of.1 ∙ sym now.origin)

pub workers-preserved : goal.workers-preserved
workers-preserved g c =
    let now = c.workers.invariant in
    let laws = g.met.T.Lanes g.world.𝓛 g.world.𝓜 g.world.𝓡 ((λ s x. x), (λ x. x), (λ x. x), λ x. x) in
    let of = of_split _ _ _ (subst (AreForksOf (g.T.Ordered.origin c.args.first.now)) c.in-Some.ensures.items now.of) in
    let e = c.end.ensures in
    let f = c.finish-lane.ensures in
    let worker = c.in-Some.worker in
    let lane = c.finish-lane.result.0 in
    let it = e.ended (g.T.Ordered.lane lane) (laws.has_own lane) in
    let first = e.into (g.T.Ordered.lane c.workers.first) (laws.has_own c.workers.first) in
    record {
      lane = e.kept.0 ∙ now.lane;
      sole = e.kept.1 ∙ now.sole;
      origin = e.kept.2 ∙ now.origin;
      of = of.0;
      room = omega (arith, e.room.0, e.room.1, f.lane.3, of.2, now.room);
      begins = begins_trans _ _ _ now.begins e.begins.0;
      mine = subst (λ n. own n (g.T.Lanes.seen c.end.new.into) ≡ own n (g.T.Lanes.seen c.workers.first)) now.lane first.1 ∙ now.mine;
      less = omega (arith, now.less, c.in-Some.ensures.cases);
      more = omega (arith, now.more, c.merge.ensures.amount);
      parts = omega (arith, now.parts, c.in-Some.ensures.cases, c.merge.ensures.parts, f.share.0);
      same = λ all.
          let before = now.same all in
          let have = seen_split _ _ _ (subst (HaveSeen (g.T.Lanes.seen c.args.first.now)) c.in-Some.ensures.items before.1) in
          (⊎_elim (λ is. is ∙ before.0) (λ is. is ∙ (f.lane.4 ∙ have.1)) e.one, have.0);
      ended = λ most before upto done.
          ended_more (g.T.Lanes.has_all c.workers.first) (g.T.Lanes.has_all c.end.new.into) most before (g.T.Ordered.lane c.args.first.now + 1) c.pop.new.self.items worker (vec_len c.args.workers - vec_len c.workers.workers) (c.workers.all.amount - c.args.all.now.amount) (vec_len c.args.workers - vec_len c.pop.new.self) (c.merge.new.self.amount - c.args.all.now.amount) (g.T.Lanes.seen c.workers.first) (g.T.Lanes.seen c.end.new.into)
          (omega (arith, now.less, c.in-Some.ensures.cases)) (omega (arith, now.more, c.merge.ensures.amount, f.share.1))
          (subst (λ n. own n (g.T.Lanes.seen c.end.new.into) ≡ own n worker.seen) f.lane.0 (it.1 ∙ ap (own (g.T.Ordered.lane lane)) f.lane.4))
          (subst (g.T.Lanes.has_all c.end.new.into) f.lane.0 it.0)
          e.into (subst (λ l. Ended (g.T.Lanes.has_all c.workers.first) most before (g.T.Ordered.lane c.args.first.now + 1) l (vec_len c.args.workers - vec_len c.workers.workers) (c.workers.all.amount - c.args.all.now.amount) (g.T.Lanes.seen c.workers.first)) c.in-Some.ensures.items (now.ended most before upto done));
    }

pub returns-clause-ended : goal.returns-clause-ended
returns-clause-ended g c =
    let now = c.workers.invariant in
    let nil : c.workers.workers.items ≡ [] = search rules in
    let all : vec_len c.args.workers - vec_len c.workers.workers ≡ vec_len c.args.workers = search rules in
    let has = g.T.Lanes.has_all c.workers.first in
    let from = g.T.Ordered.lane c.args.first.now + 1 in
    let total = c.workers.all.amount - c.args.all.now.amount in
    let seen = g.T.Lanes.seen c.workers.first in
    λ most before upto done.
    let none = subst (λ l. Ended has most before from l (vec_len c.args.workers - vec_len c.workers.workers) total seen) nil (now.ended most before upto done) in
    ended_all has most before from _ total seen (subst (λ n. Ended has most before from [] n total seen) all none)
