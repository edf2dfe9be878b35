use Rattle.std.proofs.Common.{arith, ◌∙◌}
use Rattle.std.proofs.lemmas.List.{length-set}
use Rattle.meta_trie.proofs.Copies.{copied_more, copied}
use Rattle.meta_trie.proofs.removes.anchor_bytes.Goals as goal

pub bounds-bytes-i : goal.bounds-bytes-i
bounds-bytes-i c = omega (arith, c.loop-i-test.true, c.len-i-end.ensures, c.requires)

pub loop-i-preserved : goal.loop-i-preserved
loop-i-preserved c = record {
  many = length-set c.loop-i.bytes c.loop-i.i c.byte.result ∙ c.loop-i.invariant.many;
  same = copied_more c.loop-i.bytes c.args.anchor.now c.loop-i.i c.byte.result (omega (arith, c.loop-i-test.true, c.len-i-end.ensures, c.requires, c.loop-i.invariant.many)) c.loop-i.invariant.same c.byte.ensures;
}

pub returns : goal.returns
returns c = copied c.loop-i.bytes c.args.anchor.now (omega (arith, c.requires, c.loop-i.invariant.many)) (λ j l. c.loop-i.invariant.same j (omega (arith, l, c.loop-i-test.false, c.len-i-end.ensures)))
