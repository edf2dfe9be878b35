use Rattle.std.proofs.Common.{true, take}
use Rattle.std.specs.Fn.{CalledAtTwo}
use Rattle.patience.specs.Scans.{HandsOn}
use Rattle.patience.proofs.scans.hand_on.Given as goal

-- the pairs so far were handed on
abbrev pub invariant-loop-i : goal.invariant-loop-i
invariant-loop-i g l = record {
  callable : goal.F-IsAlwaysCallable g l.each;
  handed : HandsOn (CalledAtTwo g.F.FnMut) l.fn.each (take l.i l.page.pairs) true l.each;
}
