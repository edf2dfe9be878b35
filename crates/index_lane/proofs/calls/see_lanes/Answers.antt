use Rattle.std.proofs.Common.{refl, ap, arith}
use Rattle.board_rule.specs.declared.board.Board.{Board}
use Rattle.board_rule.specs.Passes.{view}
use Rattle.board_rule.proofs.Histories.{lanes_below}
use Rattle.index_lane.proofs.calls.see_lanes.Goals as goal

pub returns-clause-lanes : goal.returns-clause-lanes
returns-clause-lanes c =
    let finds = c.look.ensures.ties.given refl in
    let few = finds.few in
    let same = ap (λ (b : Board). b.shape.lanes) c.board.ensures in
    lanes_below c.args.index.now.board.shape.lanes (view c.args.pass.now).seen (λ lane above. finds.unborn lane (omega (arith, few, same, above)))
