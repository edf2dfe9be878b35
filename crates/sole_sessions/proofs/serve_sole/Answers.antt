use Rattle.sole_sessions.proofs.Completing.{sole_session}
use Rattle.sole_sessions.proofs.serve_sole.Goals as goal

pub returns-clause-output : goal.returns-clause-output
returns-clause-output g c = sole_session _ _ _ _ _ _ _ _ _ _ _ _ _ _ _ _ c.requires.sole c.requires.new c.serve.ensures.session
