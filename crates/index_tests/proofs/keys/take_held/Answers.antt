use Rattle.std.proofs.Common.{◌*◌, ◌∙◌, ap, Some, is_some, if◌then◌else◌}
use Rattle.map_model.specs.Calls.{Del, Gone, Absent}
use Rattle.board_rule.specs.Passes.{view, lane_of}
use Rattle.board_rule.specs.Rule.{leaf_word}
use Rattle.board_rule.specs.Views.{has}
use Rattle.index_tests.proofs.Leaves.{ended_idle, gives_without}
use Rattle.index_tests.proofs.keys.take_held.Goals as goal

pub unlock-requires-clause-gives : goal.unlock-requires-clause-gives
unlock-requires-clause-gives c =
    let held = c.args.held in
    gives_without c.args.board.now.shape (has (view c.args.pass.now) held.leaf) held.content.map c.remove.new.self c.args.key.now c.is_some-gone.result
    c.requires.gives.0 c.requires.few.0 c.requires.few.1 c.remove.ensures.map (c.remove.ensures.salt ∙ c.requires.gives.1) (c.is_some-gone.ensures ∙ ap is_some c.remove.ensures.value)

pub returns-clause-idle : goal.returns-clause-idle
returns-clause-idle c =
    let held = c.args.held in
    ended_idle c.args.board.now.shape held (leaf_word c.args.board.now.shape held.leaf) (held.date * 256) (lane_of c.args.pass.now.lane) c.args.pass.now.seat.me c.unlock.new.pass.seat.me c.requires.only c.requires.held (Some (Del c.args.key.now, if c.is_some-gone.result then Gone else Absent)) c.unlock.ensures.view
