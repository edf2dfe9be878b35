use Rattle.std.proofs.Common.{arith}
use Rattle.lane_runner.proofs.Serving.{first_serves}
use Rattle.lane_runner.proofs.run.run_first.Goals as goal

-- the session went from the history that the lane had seen to the one that it has
pub returns-clause-served : goal.returns-clause-served
returns-clause-served g c =
    let s = c.serve-ending.ensures in
    let laws = g.met.T.Lanes g.world.𝓛 g.world.𝓜 g.world.𝓡 ((λ s x. x), (λ x. x), (λ x. x), λ x. x) in
    let store = c.serve-ending.new.store.store in
    rw (← c.new-store.ensures, c.into_store.ensures, c.of.ensures) (first_serves _ _ _ _ _ _ _ _ _ _ _ _ _ _ _ _ (g.T.Lanes.seen c.new-store.result.store) (g.T.Lanes.seen store) _ s.session c.budget-budget.ensures c.new-source.ensures c.new-sink.ensures
    (laws.stands_seen c.new-store.result.store) (laws.only_seen store)
    (λ fault. absurd (omega (arith, s.read fault))) (λ fault. absurd (omega (arith, s.write fault))))
