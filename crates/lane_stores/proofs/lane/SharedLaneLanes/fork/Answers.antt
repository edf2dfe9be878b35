use Rattle.std.proofs.Common.{arith}
use Rattle.lane_stores.proofs.lane.SharedLaneLanes.fork.Goals as goal

pub overflow_add-self : goal.overflow_add-self
overflow_add-self c = omega (arith, c.if-self-eq0.false, c.args.self.now.within)

pub overflow_add-result : goal.overflow_add-result
overflow_add-result c = omega (arith, c.if-self-eq0.false, c.args.self.now.within)
