use Rattle.std.proofs.Common.{◌*◌, None}
use Rattle.board_rule.specs.Passes.{lane_of}
use Rattle.board_rule.specs.Rule.{leaf_word}
use Rattle.index_tests.proofs.Leaves.{ended_idle}
use Rattle.index_tests.proofs.keys.release.Goals as goal

pub returns-clause-idle : goal.returns-clause-idle
returns-clause-idle c = ended_idle c.args.board.now.shape c.args.held (leaf_word c.args.board.now.shape c.args.held.leaf) (c.args.held.date * 256) (lane_of c.args.pass.now.lane) c.args.pass.now.seat.me c.unlock.new.pass.seat.me c.requires.only c.requires.held None c.unlock.ensures.view
