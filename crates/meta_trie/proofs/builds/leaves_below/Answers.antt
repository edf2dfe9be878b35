use Rattle.std.proofs.Common.{arith}
use Rattle.meta_trie.proofs.Building.{all_below, past_at}
use Rattle.meta_trie.proofs.builds.leaves_below.Goals as goal

pub returns-then-leaf-cap-clause-past : goal.returns-then-leaf-cap-clause-past
returns-then-leaf-cap-clause-past c = λ _. past_at c.args.cap c.args.anchors.now c.loop-i.i (omega (arith, c.loop-i-test.true, c.len-i-end.ensures.len)) (omega (arith, c.leaf.ensures, c.if-leaf-cap.true))

pub returns-clause-below : goal.returns-clause-below
returns-clause-below c = λ _. all_below c.args.cap c.args.anchors.now (λ i lt. c.loop-i.invariant i (omega (arith, lt, c.loop-i-test.false, c.len-i-end.ensures.len)))
