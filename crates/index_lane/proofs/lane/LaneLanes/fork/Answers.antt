use Rattle.board_rule.specs.Passes.{lane_of, view}
use Rattle.index_lane.proofs.Forking.{kept_all}
use Rattle.index_lane.proofs.lane.LaneLanes.fork.Goals as goal

pub returns-in-Ok-clause-all : goal.returns-in-Ok-clause-all
returns-in-Ok-clause-all c n has =
    let number = c.in-Ok.ensures.number in
    kept_all c.args.self.now.index.now.board.shape (lane_of c.args.self.now.pass.lane) number.0 (view c.args.self.now.pass) (view c.fork.new.pass) (view c.in-Ok.pass) c.args.self.now.steady number.1 n has
