use Rattle.std.proofs.Common.{arith}
use Rattle.lane_stores.proofs.lane.SharedLane.refuse.Goals as goal

pub overflow_cast-refusal : goal.overflow_cast-refusal
overflow_cast-refusal c = omega (arith, c.requires.some, c.requires.lane, c.args.self.now.idle.fixed)
