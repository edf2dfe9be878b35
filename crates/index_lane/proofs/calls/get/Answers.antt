use Rattle.std.proofs.Common.{◌≡◌, rules}
use Rattle.std.specs.Vec.{vec_capacity}
use Rattle.board_rule.specs.Passes.{lane_of, view}
use Rattle.worm_index.specs.declared.faults.GetFault.TheVariants.{Again}
use Rattle.index_lane.proofs.Looking.{get_look}
use Rattle.index_lane.proofs.calls.get.Goals as goal

pub returns-in-Err-Again-clause-cause : goal.returns-in-Err-Again-clause-cause
returns-in-Err-Again-clause-cause g c =
    let is : c.in-Err-Again.field-0 ≡ Again c.in-Err-Again.again = search rules in
    get_look (view c.args.pass.now) (view c.try_get.new.pass) (view c.see_lanes-in-Err-Again.new.pass) c.see_lanes-in-Err-Again.result c.see_lanes-in-Err-Again.ensures.view c.args.index.now.board.shape (lane_of c.args.pass.now.lane) c.args.key.now (vec_capacity c.args.out.now) c.in-Err-Again.field-0 c.in-Err-Again.again is c.in-Err-Again.ensures.cause
