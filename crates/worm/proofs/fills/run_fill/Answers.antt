use Rattle.std.proofs.Common.{ap, ◌∙◌, arith}
use Rattle.board_rule.specs.Passes.{lane_of, view}
use Rattle.board_rule.specs.declared.board.Pass.{Pass}
use Rattle.worm_index.specs.declared.index.Index.{Index}
use Rattle.worm.proofs.Filling.{filled}
use Rattle.worm.proofs.fills.run_fill.Goals as goal

pub returns-in-Ok-clause-filled : goal.returns-in-Ok-clause-filled
returns-in-Ok-clause-filled g c =
    let made = c.in-Ok.ensures in
    let lane = c.new-lane.ensures in
    filled _ c.new-lane.result.index.now.board.shape _ _ _ c.fill-end.result _ _ _ _ _ _ _ _ _ _ _
    (ap (λ (i : Index). i.board.shape) lane.index ∙ made.shape) (ap lane_of (lane.pass.0 ∙ made.lane)) (lane.pass.1 ∙ made.sole) lane.counted.0 lane.counted.1 lane.seen c.into_parts-pass.ensures
    c.requires (omega arith) c.status_of.ensures c.fill-end.ensures.filled
