use Rattle.std.proofs.Common.{arith, ◌∙◌}
use Rattle.meta_trie.specs.Trie.{bit_of}
use Rattle.meta_trie.proofs.Growing.{child_set, child_none}
use Rattle.meta_trie.proofs.grows.with_child.Goals as goal

pub returns-then-n-anchor : goal.returns-then-n-anchor
returns-then-n-anchor c = λ e l. child_none c.args.anchor.now c.args.n e (bit_of c.args.bits e) c.if-n-anchor.true

pub returns : goal.returns
returns c = λ e l. c.with_bit.ensures e l ∙ child_set c.args.anchor.now c.args.n e (bit_of c.args.bits e) (let ne = c.if-n-anchor.false in omega (arith, ne, c.requires))
