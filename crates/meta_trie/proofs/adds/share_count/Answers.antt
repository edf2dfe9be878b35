use Rattle.std.proofs.Common.{arith, ◌∙◌}
use Rattle.key_bytes.proofs.Separators.{short_left, short_right, apart}
use Rattle.meta_trie.proofs.adds.share_count.Goals as goal
use Rattle.meta_trie.proofs.adds.share_count.Goals.{then-same-test+then-i-bytes+else-byte-bytes, then-same-test+else-i-bytes, else-same-test}

pub returns : goal.returns
returns c =
    let e = c.same.invariant.2 in
    elim c.same-test.branch [
      | then-same-test+then-i-bytes+else-byte-bytes w ↦
          let z = apart c.args.anchor.now c.args.bytes.now c.same.i (omega (arith, w.same-test.true, c.len.ensures)) w.if-i-bytes.true (λ q. w.if-byte-bytes.false (w.byte.ensures ∙ q)) in omega (arith, e, z)
      | then-same-test+else-i-bytes w ↦ let z = short_right c.args.anchor.now c.args.bytes.now c.same.i (omega (arith, w.if-i-bytes.false)) in omega (arith, e, z)
      | else-same-test w ↦ let z = short_left c.args.anchor.now c.args.bytes.now c.same.i (omega (arith, w.same-test.false, c.len.ensures)) in omega (arith, e, z)
    ]
