use Rattle.std.proofs.Common.{ap, ◌∙◌}
use Rattle.board_rule.specs.Passes.{view}
use Rattle.board_rule.specs.declared.board.Pass.{Pass}
use Rattle.lane_facts.proofs.Names.{origin_apart}
use Rattle.row_words.specs.declared.shape.Shape.{Shape}
use Rattle.worm_index.specs.declared.index.Index.{Index}
use Rattle.worm.proofs.Answering.{answered}
use Rattle.worm.proofs.lanes.answer_all.Goals as goal

pub returns-in-Ok-clause-answered : goal.returns-in-Ok-clause-answered
returns-in-Ok-clause-answered g c =
    let made = c.in-Ok.ensures in
    let lane = c.new-lane.ensures in
    let ends = c.answer_input-end.ensures in
    let first = c.answer_input-end.new.first in
    let shape = ap (λ (i : Index). i.board.shape) lane.index ∙ made.shape in
    let lanes = (origin_apart _ _ _ _ ends.kept.1).0 in
    answered _ c.new-lane.result.index.now.board.shape _ _ c.answer_input-end.result _ _ _ _ _ _ _ _ _ _
    shape (lane.pass.1 ∙ made.sole) lane.counted.0 lane.seen c.into_parts-pass.ensures
    first.steady.legal first.steady.numbered _ (lanes ∙ ap (λ (k : Shape). k.lanes) shape) first.steady.lanes c.lanes_status.ensures ends.alone ends.among ends.said
