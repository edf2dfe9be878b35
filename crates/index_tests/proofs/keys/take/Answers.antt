use Rattle.std.proofs.Common.{subst}
use Rattle.board_rule.specs.Passes.{view}
use Rattle.index_tests.specs.Leaves.{IsNotedFor}
use Rattle.index_tests.proofs.keys.take.Goals as goal

pub take_held-requires-clause-note : goal.take_held-requires-clause-note
take_held-requires-clause-note g c = subst (λ key. IsNotedFor key (view c.hold.new.pass) c.in-Ok-hold.held) c.in-Ok.ensures.key c.in-Ok-hold.ensures.note
