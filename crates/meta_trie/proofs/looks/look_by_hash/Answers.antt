use Rattle.std.proofs.Common.{arith}
use Rattle.anchor_rules.specs.Items.{item}
use Rattle.meta_trie.proofs.Walks.{found_looked, bucket_short}
use Rattle.meta_trie.proofs.looks.look_by_hash.Goals as goal

pub returns-in-Some-clause-value : goal.returns-in-Some-clause-value
returns-in-Some-clause-value g c = λ A s. found_looked _ _ (item A) s.trie _ _ (c.in-Some.ensures.value (item A) s.trie)

pub returns-in-Some-clause-cost : goal.returns-in-Some-clause-cost
returns-in-Some-clause-cost g c = λ A s m most. let short = bucket_short _ _ A s c.args.prefix.now m most in omega (arith, short, c.find.ensures.cost (item A) s.trie)

pub returns-in-None-clause-cost : goal.returns-in-None-clause-cost
returns-in-None-clause-cost g c = λ A s m most. let short = bucket_short _ _ A s c.args.prefix.now m most in omega (arith, short, c.find.ensures.cost (item A) s.trie)

pub returns-in-None-clause-value : goal.returns-in-None-clause-value
returns-in-None-clause-value g c = λ A s. c.in-None.ensures.value (item A) s.trie
