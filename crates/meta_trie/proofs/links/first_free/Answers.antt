use Rattle.std.proofs.Common.{arith}
use Rattle.meta_trie.proofs.Linking.{free_place}
use Rattle.meta_trie.proofs.links.first_free.Goals as goal

pub overflow_cast-result : goal.overflow_cast-result
overflow_cast-result g c = let e = free_place _ _ _ c.requires.trie.1 c.requires.some in omega (arith, e.1, c.requires.trie.1.ranges.items.1, c.word.ensures.value)

pub returns-clause-range : goal.returns-clause-range
returns-clause-range g c = let e = free_place _ _ _ c.requires.trie.1 c.requires.some in omega (arith, e.1, c.word.ensures.value)
