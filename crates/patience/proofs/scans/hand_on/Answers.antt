use Rattle.std.proofs.Common.{[], of_calls, rules}
use Rattle.std.specs.Fn.{CalledAtTwo}
use Rattle.patience.proofs.Scanning.{hands_next, hands_last}
use Rattle.patience.proofs.scans.hand_on.Goals as goal

pub returns-then-not-each-clause-handed : goal.returns-then-not-each-clause-handed
returns-then-not-each-clause-handed g c =
    hands_last (CalledAtTwo g.F.FnMut) _ _ _ _ c.loop-i.i ([], []) (search rules) (c.loop-i.invariant.handed) (record {
      first = c.key.result;
      second = c.value.result;
      shows = (c.key.ensures, c.value.ensures);
      called = c.if-not-each.ensures;
    })

pub loop-i-preserved : goal.loop-i-preserved
loop-i-preserved g c = record {
  callable = search of_calls;
  handed = hands_next (CalledAtTwo g.F.FnMut) _ _ _ _ c.loop-i.i ([], []) (search rules) (c.loop-i.invariant.handed) (record {
    first = c.key.result;
    second = c.value.result;
    shows = (c.key.ensures, c.value.ensures);
    called = c.if-not-each.ensures;
  });
}
