use Rattle.board_rule.specs.Passes.{view, lane_of}
use Rattle.index_tests.proofs.Leaves.{held_few, held_gives, held_noted, held_only, looked_idle, refused_idle}
use Rattle.index_tests.proofs.keys.hold.Goals as goal

pub returns-in-Ok-clause-gives : goal.returns-in-Ok-clause-gives
returns-in-Ok-clause-gives g c = held_gives c.args.board.now.shape c.args.place.leaf c.see-seen.result c.args.place.version (lane_of c.see-seen.new.pass.lane) (view c.args.pass.now) (view c.see-seen.new.pass) (view c.lock.new.pass) c.in-Ok.held c.see-seen.ensures.view c.in-Ok.ensures.ok

pub returns-in-Ok-clause-note : goal.returns-in-Ok-clause-note
returns-in-Ok-clause-note g c = held_noted c.args.board.now.shape c.args.place.leaf c.see-seen.result c.args.place.version (lane_of c.see-seen.new.pass.lane) (view c.args.pass.now) (view c.see-seen.new.pass) (view c.lock.new.pass) c.in-Ok.held c.see-seen.ensures.view c.in-Ok.ensures.ok c.args.place.key.now c.requires.placed

pub returns-in-Ok-clause-only : goal.returns-in-Ok-clause-only
returns-in-Ok-clause-only g c = held_only c.args.board.now.shape c.args.place.leaf c.see-seen.result c.args.place.version (lane_of c.see-seen.new.pass.lane) (view c.args.pass.now) (view c.see-seen.new.pass) (view c.lock.new.pass) c.in-Ok.held c.see-seen.ensures.view c.in-Ok.ensures.ok c.requires.idle

pub returns-in-Err-clause-idle : goal.returns-in-Err-clause-idle
returns-in-Err-clause-idle g c = refused_idle c.args.board.now.shape c.args.place.leaf c.see-seen.result c.args.place.version (view c.see-seen.new.pass) (view c.lock.new.pass) c.in-Err.again c.in-Err.ensures.refused (looked_idle (view c.args.pass.now) (view c.see-seen.new.pass) _ c.see-seen.result c.see-seen.ensures.view c.requires.idle)

pub returns-in-Ok-clause-few : goal.returns-in-Ok-clause-few
returns-in-Ok-clause-few g c = held_few c.args.board.now.shape c.args.place.leaf c.see-seen.result c.args.place.version (lane_of c.see-seen.new.pass.lane) (view c.args.pass.now) (view c.see-seen.new.pass) (view c.lock.new.pass) c.in-Ok.held c.see-seen.ensures.view c.in-Ok.ensures.ok c.args.place.key.now c.requires.placed
