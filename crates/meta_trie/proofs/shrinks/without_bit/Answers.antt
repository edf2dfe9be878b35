use Rattle.std.proofs.Common.{rules, arith}
use Rattle.meta_trie.proofs.Shrinking.{bits_cleared}
use Rattle.meta_trie.proofs.shrinks.without_bit.Goals as goal

pub returns : goal.returns
returns c = λ e l. bits_cleared c.args.bits c.args.c e (search rules) (omega (arith, c.ranges.c)) l
