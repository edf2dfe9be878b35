use Rattle.std.proofs.Common.{ap, ◌∙◌, arith}
use Rattle.board_rule.specs.Passes.{lane_of, view}
use Rattle.board_rule.specs.declared.board.Pass.{Pass}
use Rattle.row_words.specs.declared.shape.Shape.{Shape}
use Rattle.worm_index.specs.declared.index.Index.{Index}
use Rattle.worm.proofs.Serving.{served}
use Rattle.worm.proofs.servers.serve_all.Goals as goal

pub returns-in-Ok-clause-served : goal.returns-in-Ok-clause-served
returns-in-Ok-clause-served g c =
    let made = c.in-Ok.ensures in
    let lane = c.new-lane.ensures in
    let status = c.serve_lanes-status.ensures in
    let shape = ap (λ (i : Index). i.board.shape) lane.index ∙ made.shape in
    served _ c.new-lane.result.index.now.board.shape _ _ _ _ _ _ _ _ _ _ _ (view c.new-lane.result.pass).room _ _ _ _ _ _ _ _
    shape (ap lane_of (lane.pass.0 ∙ made.lane)) (lane.pass.1 ∙ made.sole) lane.counted.0 lane.counted.1 lane.seen c.into_parts-pass.ensures
    (ap (λ (k : Shape). k.lanes) shape) (omega (arith, lane.pass.2, made.room.0, c.requires.workers.0, c.requires.workers.1))
    status.status c.serve_lanes-status.new.first.steady.legal status.done status.accepted status.wanting status.alone status.shared status.forks
