use Rattle.std.proofs.Common.{arith}
use Rattle.row_words.proofs.Packed.{bytes_packed}
use Rattle.row_words.proofs.anchor_words.AnchorWords.new.Goals as goal

pub returns : goal.returns
returns c = bytes_packed c.loop-i.words c.args.bytes.now (λ i l. c.loop-i.invariant.packed i (omega (arith, l, c.loop-i-test.false)))
