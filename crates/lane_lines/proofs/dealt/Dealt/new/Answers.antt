use Rattle.std.proofs.Common.{arith}
use Rattle.lane_lines.proofs.Dealing.{scripts_none}
use Rattle.lane_lines.proofs.dealt.Dealt.new.Goals as goal

pub loop-preserved : goal.loop-preserved
loop-preserved c = record {
  many = omega (arith, c.loop.invariant.many, c.in_ok-push.ensures.len);
  none = rw c.in_ok-push.ensures.items (scripts_none c.loop.scripts.items c.new.result c.loop.invariant.none c.new.ensures.items);
}
