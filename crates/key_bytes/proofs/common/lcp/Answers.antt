use Rattle.std.proofs.Common.{arith}
use Rattle.key_bytes.proofs.Separators.{short_right}
use Rattle.key_bytes.proofs.common.lcp.Goals as goal

pub returns-else-i-b : goal.returns-else-i-b
returns-else-i-b c = let e = c.same.invariant.2 in let z = short_right c.args.a.now c.args.b.now c.same.i (omega arith) in omega arith
