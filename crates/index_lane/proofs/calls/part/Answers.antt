use Rattle.std.proofs.Common.{◌≡◌, max, rules}
use Rattle.board_rule.specs.Passes.{lane_of, view}
use Rattle.worm_index.specs.declared.parts.PartFault.TheVariants.{Again}
use Rattle.index_lane.proofs.Looking.{few_look, part_look}
use Rattle.index_lane.proofs.calls.part.Goals as goal

pub returns-in-Err-Again-clause-cause : goal.returns-in-Err-Again-clause-cause
returns-in-Err-Again-clause-cause g c =
    let is : c.in-Err-Again.field-0 ≡ Again c.in-Err-Again.again = search rules in
    part_look (view c.args.pass.now) (view c.try_few.new.pass) (view c.see_lanes-in-Err-Again.new.pass) c.see_lanes-in-Err-Again.result c.see_lanes-in-Err-Again.ensures.view c.args.index.now.board.shape (lane_of c.args.pass.now.lane) c.args.from.now c.args.to.now c.in-Err-Again.field-0 c.in-Err-Again.again is c.in-Err-Again.ensures.cause

pub returns-in-Ok-clause-end : goal.returns-in-Ok-clause-end
returns-in-Ok-clause-end g c =
    let most : c.max-most.result ≡ max c.args.page.now.wanted 1 = search rules in
    few_look (view c.args.pass.now) (view c.try_few.new.pass) (view c.see_lanes.new.pass) c.see_lanes.result c.see_lanes.ensures.view c.args.index.now.board.shape (lane_of c.args.pass.now.lane) c.args.from.now c.args.to.now c.max-most.result (max c.args.page.now.wanted 1) c.try_few.new.page.pairs c.in-Ok.upto most c.in-Ok.ensures.end
