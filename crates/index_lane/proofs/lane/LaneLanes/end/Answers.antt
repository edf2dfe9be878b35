use Rattle.std.proofs.Common.{◌∙◌}
use Rattle.board_rule.specs.Passes.{view}
use Rattle.lane_facts.proofs.Names.{origin_apart}
use Rattle.index_lane.proofs.Joining.{into_all, ended_all}
use Rattle.index_lane.proofs.lane.LaneLanes.end.Goals as goal

pub end-requires-clause-of : goal.end-requires-clause-of
end-requires-clause-of c =
    let into = c.args.into.now in
    let self = c.args.self in
    let same = origin_apart self.index.now.board.shape.lanes into.index.now.board.shape.lanes self.pass.seat.table_id into.pass.seat.table_id c.requires in
    (same.1 ∙ into.of, into.of)

pub returns-clause-into : goal.returns-clause-into
returns-clause-into c = into_all (view c.args.into.now.pass) (view c.args.self.pass) (view c.end.new.into) (view c.see_lanes-into.new.pass) c.see_lanes-into.result c.end.ensures.took c.see_lanes-into.ensures.view

pub returns-clause-ended : goal.returns-clause-ended
returns-clause-ended c = ended_all (view c.args.into.now.pass) (view c.args.self.pass) (view c.end.new.into) (view c.see_lanes-into.new.pass) c.see_lanes-into.result c.end.ensures.took c.see_lanes-into.ensures.view
