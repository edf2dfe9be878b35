use Rattle.std.specs.Io.KnownBytes.{Keeps}
use Rattle.standard_ends.proofs.outgoing.write_some.Given as goal

-- an interrupted write took nothing
abbrev pub invariant-loop : goal.invariant-loop
invariant-loop g l = Keeps (g.W.Write.contents l.initial.writer) (g.W.Write.contents l.writer)
