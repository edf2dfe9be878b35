use Rattle.solo_index.proofs.Steps.{taken_enters}
use Rattle.solo_index.proofs.solo.SoloOrdered.del.Goals as goal

pub returns-clause-ok : goal.returns-clause-ok
returns-clause-ok c = taken_enters c.args.self.now.table c.take_key.new.self.table c.take_key.ensures.whole.anchors c.take_key.ensures.whole.map c.take_key.ensures.whole.ranges.merge_sum c.args.key.now c.take_key.result c.take_key.ensures.taken
