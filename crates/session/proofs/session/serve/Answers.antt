use Rattle.session.proofs.SessionSteps.{session_rests}
use Rattle.session.proofs.session.serve.Goals as goal

pub returns-clause-session : goal.returns-clause-session
returns-clause-session g c =
    session_rests _ _ _ _ _ _ _ _ _ _ _ _ _ _ _ _ _ _ _ c.rest.ensures.counted.0 c.rest.ensures.counted.1 c.serve_reads-end.ensures.session c.rest.ensures.seen
