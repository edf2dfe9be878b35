use Rattle.std.proofs.Common.{rules, arith}
use Rattle.meta_trie.proofs.Growing.{bits_set}
use Rattle.meta_trie.proofs.grows.with_bit.Goals as goal

pub returns : goal.returns
returns c = λ e l. bits_set c.args.bits c.args.c e (search rules) (omega (arith, c.ranges.c)) l
