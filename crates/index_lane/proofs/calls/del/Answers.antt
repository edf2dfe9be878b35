use Rattle.board_rule.specs.Passes.{view}
use Rattle.index_lane.proofs.calls.del.Goals as goal

pub returns-clause-cause : goal.returns-clause-cause
returns-clause-cause g c = (view c.try_del.new.pass, c.see_lanes-in-Err.result, c.see_lanes-in-Err.ensures.view, c.in-Err.ensures.cause)
