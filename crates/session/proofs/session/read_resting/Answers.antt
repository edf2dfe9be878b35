use Rattle.std.proofs.Common.{◌∙◌}
use Rattle.map_model.proofs.Growing.{follows_then}
use Rattle.session.proofs.session.read_resting.Goals as goal

pub returns-clause-seen : goal.returns-clause-seen
returns-clause-seen g c = follows_then _ _ _ _ _ _ (λ old mid new p q. q ∙ p) c.rest.ensures.seen c.wake.ensures.seen
