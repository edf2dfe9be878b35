use Rattle.std.proofs.Common.{Bool}
use Rattle.solo_index.proofs.Steps.{put_enters, put_refused}
use Rattle.solo_index.proofs.Room.{room_for_put}
use Rattle.solo_index.proofs.solo.SoloOrdered.put.Goals as goal

pub returns-in-Ok-clause-ok : goal.returns-in-Ok-clause-ok
returns-in-Ok-clause-ok c = put_enters c.args.self.now.table c.put_key.new.self.table c.put_key.ensures.whole.anchors c.put_key.ensures.whole.map (c.put_key.ensures.whole.ranges.soft).1 (c.put_key.ensures.whole.ranges.hard).0 c.args.key.now c.args.value.now c.in-Ok.put c.in-Ok.ensures.ok

pub returns-in-Err-clause-refused : goal.returns-in-Err-clause-refused
returns-in-Err-clause-refused c = put_refused c.args.self.now.table c.put_key.ensures.whole.anchors c.put_key.ensures.whole.map (c.put_key.ensures.whole.ranges.soft).1 (c.put_key.ensures.whole.ranges.hard).0 c.put_key.new.self.table c.args.key.now c.in-Err.refusal c.in-Err.ensures.refused

pub returns-in-Err-clause-room : goal.returns-in-Err-clause-room
returns-in-Err-clause-room c seen stands fits = room_for_put Bool c.args.self.now.table c.put_key.new.self.table seen _ c.args.key.now c.in-Err.refusal c.put_key.ensures.whole stands fits c.in-Err.ensures.refused
