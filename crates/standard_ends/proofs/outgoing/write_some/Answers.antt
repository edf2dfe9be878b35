use Rattle.std.proofs.KnownBytes.{Keeps-trans}
use Rattle.standard_ends.proofs.Handing.{appends_none}
use Rattle.standard_ends.proofs.outgoing.write_some.Goals as goal

pub returns-in-Ok-eq0-clause-none : goal.returns-in-Ok-eq0-clause-none
returns-in-Ok-eq0-clause-none g c = Keeps-trans _ _ _ c.loop.invariant (appends_none _ _ _ _ c.in-Ok-eq0.field-0-test c.in-Ok-eq0.ensures.bytes)
