use Rattle.std.proofs.Common.{arith, ◌∙◌}
use Rattle.meta_trie.specs.Trie.{bit_of}
use Rattle.meta_trie.proofs.Shrinking.{child_cleared, no_child}
use Rattle.meta_trie.proofs.shrinks.without_child.Goals as goal

pub returns : goal.returns
returns c = λ e l. c.without_bit.ensures e l ∙ child_cleared c.args.anchor.now c.args.n e (bit_of c.args.bits e) c.args.keeps c.if-keeps.false (let ne = c.if-n-anchor.false in omega (arith, ne, c.requires))

pub returns-then-n-anchor : goal.returns-then-n-anchor
returns-then-n-anchor c = λ e l. no_child c.args.anchor.now c.args.n e (bit_of c.args.bits e) c.args.keeps c.if-n-anchor.true
