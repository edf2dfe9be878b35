use Rattle.std.proofs.Common.{arith}
use Rattle.lane_runner.proofs.Serving.{ready_serves}
use Rattle.lane_runner.proofs.slot.Slot.run.Goals as goal

-- the session went from the history that the lane had seen to the one that it has
pub returns : goal.returns
returns g c =
    let s = c.serve-self-inside.ensures in
    let laws = g.met.T.Lanes g.world.𝓛 g.world.𝓜 g.world.𝓡 ((λ s x. x), (λ x. x), (λ x. x), λ x. x) in
    let store = c.serve-self-inside.new.store.store in
    rw (← c.self.view_is) record {
      same_lane = s.kept.0;
      same_origin = s.kept.2;
      same_room = s.forks;
      served = λ origin most limit seen script ready.
          ready_serves _ _ _ _ _ _ _ _ _ _ _ _ _ _ _ _ _ _ _ (g.T.Lanes.seen store) _ s.session c.budget-budget.ensures ready.whole ready.silent ready.same_limit ready.among ready.uncounted ready.same_seen
          (laws.stands_seen c.self.inside.store.store) (laws.only_seen store)
          (λ fault. absurd (omega (arith, s.read fault))) (λ fault. absurd (omega (arith, s.write fault)));
    }
