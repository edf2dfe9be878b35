use Rattle.std.proofs.Common.{subst}
use Rattle.board_rule.specs.Passes.{view}
use Rattle.index_tests.specs.Leaves.{IsNotedFor}
use Rattle.index_tests.proofs.keys.put.Goals as goal

pub put_held-requires-clause-note : goal.put_held-requires-clause-note
put_held-requires-clause-note g c = subst (λ key. IsNotedFor key (view c.hold.new.pass) c.in-Ok-hold.held) c.in-Ok.ensures.key c.in-Ok-hold.ensures.note
