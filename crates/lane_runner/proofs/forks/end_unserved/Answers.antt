use Rattle.std.proofs.Common.{subst, sym, ◌∙◌, ⊎_elim, arith}
use Rattle.lane_runner.specs.Tasks.{AreForksOf, HaveSeen}
use Rattle.lane_runner.proofs.Running.{of_split, seen_split}
use Rattle.lane_runner.proofs.forks.end_unserved.Goals as goal

pub end-requires : goal.end-requires
end-requires g c =
    let now = c.slots.invariant in
    let of = of_split _ _ _ (subst (AreForksOf (g.T.Ordered.origin c.args.first.now)) c.in-Some.ensures.items now.of) in
    c.into_lane-lane.ensures.lane.1 ∙ (of.1 ∙ sym now.origin)

pub slots-preserved : goal.slots-preserved
slots-preserved g c =
    let now = c.slots.invariant in
    let of = of_split _ _ _ (subst (AreForksOf (g.T.Ordered.origin c.args.first.now)) c.in-Some.ensures.items now.of) in
    let have = seen_split _ _ _ (subst (HaveSeen (g.T.Lanes.seen c.args.first.now)) c.in-Some.ensures.items now.have) in
    let e = c.end.ensures in record {
      seen = ⊎_elim (λ same. same ∙ now.seen) (λ other. other ∙ (c.into_lane-lane.ensures.lane.3 ∙ have.1)) e.one;
      lane = e.kept.0 ∙ now.lane;
      sole = e.kept.1 ∙ now.sole;
      room = omega (arith, e.room.0, e.room.1, c.into_lane-lane.ensures.room, of.2, now.room);
      origin = e.kept.2 ∙ now.origin;
      of = of.0;
      have = have.0;
    }
