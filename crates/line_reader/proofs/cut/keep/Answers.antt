use Rattle.std.proofs.Common.{rules}
use Rattle.line_reader.proofs.Fronts.{front_more}
use Rattle.line_reader.proofs.cut.keep.Goals as goal

pub returns-then-over-clause-front : goal.returns-then-over-clause-front
returns-then-over-clause-front c part front = front_more c.args.line.now.items part c.args.bytes.now _ c.args.over _ front (search rules) (search rules)

pub returns-else-over-clause-front : goal.returns-else-over-clause-front
returns-else-over-clause-front c part front = front_more c.args.line.now.items part c.args.bytes.now _ c.args.over _ front (search rules) (search rules)
