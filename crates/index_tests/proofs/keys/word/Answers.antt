use Rattle.board_rule.specs.Passes.{view}
use Rattle.index_tests.proofs.Leaves.{looked_idle}
use Rattle.index_tests.proofs.keys.word.Goals as goal

pub returns-clause-idle : goal.returns-clause-idle
returns-clause-idle c = looked_idle (view c.args.pass.now) (view c.see.new.pass) _ c.see.result c.see.ensures.view c.requires.idle
