use Rattle.std.proofs.Common.{subst}
use mathlib.Core.List.{IsPrefix}
use Rattle.index_server.proofs.server.serve_door.Goals as goal

-- one worker: what the first lane had seen went on by the sessions
pub returns-then-workers-eq1-clause-alone : goal.returns-then-workers-eq1-clause-alone
returns-then-workers-eq1-clause-alone g c =
    let laws = g.met.T.Lanes g.world.𝓛 g.world.𝓜 g.world.𝓡 ((λ s x. x), (λ x. x), (λ x. x), λ x. x) in
    let now = c.serve_alone.ensures.served (g.T.Lanes.seen c.args.first.now) (laws.stands_seen c.args.first.now) in
    λ one. rw (← laws.only_seen c.serve_alone.new.store now.0 now.1) now.2

pub returns-then-workers-eq1-clause-begins : goal.returns-then-workers-eq1-clause-begins
returns-then-workers-eq1-clause-begins g c =
    let laws = g.met.T.Lanes g.world.𝓛 g.world.𝓜 g.world.𝓡 ((λ s x. x), (λ x. x), (λ x. x), λ x. x) in
    let now = c.serve_alone.ensures.served (g.T.Lanes.seen c.args.first.now) (laws.stands_seen c.args.first.now) in
    subst (IsPrefix (g.T.Lanes.seen c.args.first.now)) (laws.only_seen c.serve_alone.new.store now.0 now.1) now.2.grows.begins
