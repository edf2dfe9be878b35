use Rattle.std.proofs.Common.{ap, ◌∙◌}
use Rattle.board_rule.specs.Passes.{lane_of, view}
use Rattle.board_rule.specs.declared.board.Pass.{Pass}
use Rattle.worm_index.specs.declared.index.Index.{Index}
use Rattle.worm.proofs.Running.{ran}
use Rattle.worm.proofs.script.run_script.Goals as goal

pub returns-in-Ok-clause-ran : goal.returns-in-Ok-clause-ran
returns-in-Ok-clause-ran g c =
    let made = c.in-Ok.ensures in
    let lane = c.new-lane.ensures in
    let ends = c.serve_sole-end.ensures in
    ran _ c.new-lane.result.index.now.board.shape c.serve_sole-end.result _ _ _ _ _ _ _ _ _ _ _ _ _ _ _ _ _ _
    (ap (λ (i : Index). i.board.shape) lane.index ∙ made.shape) (ap lane_of (lane.pass.0 ∙ made.lane)) (lane.pass.1 ∙ made.sole) lane.counted.0 lane.counted.1 lane.seen c.into_parts-pass.ensures
    c.requires c.status_of.ensures ends.read ends.write ends.session ends.output
