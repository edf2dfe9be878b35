use Rattle.std.proofs.Common.{ap, ◌∙◌, arith}
use Rattle.key_bytes.specs.Fnv.{prefix_hash}
use Rattle.prefix_search.proofs.Hashing.{hash_whole}
use Rattle.prefix_search.proofs.locates.seek.Goals as goal

pub leaf_from-leaf-requires-clause-hash : goal.leaf_from-leaf-requires-clause-hash
leaf_from-leaf-requires-clause-hash g c = rw c.reach-reached.ensures.shape c.reach-reached.ensures.hash

pub leaf_from-leaf-requires-clause-longest : goal.leaf_from-leaf-requires-clause-longest
leaf_from-leaf-requires-clause-longest g c = rw (c.reach-reached.ensures.shape, c.reach-reached.ensures.words) c.reach-reached.ensures.longest

pub returns-clause-leaf : goal.returns-clause-leaf
returns-clause-leaf g c = rw (c.reach-reached.ensures.shape, c.reach-reached.ensures.words, c.bytes-bytes.ensures.bytes) at c.leaf_from-leaf.ensures.leaf

pub returns-clause-hash : goal.returns-clause-hash
returns-clause-hash g c = hash_whole _ _ _ _ _ c.reach-reached.ensures.hash c.extend.ensures ∙ ap (prefix_hash _) c.bytes-bytes.ensures.bytes

pub returns-clause-cost : goal.returns-clause-cost
returns-clause-cost g c = λ A s most fits.
    let first = rw c.bytes-bytes.ensures.bytes at c.reach-reached.ensures.cost in
    let second = rw (c.reach-reached.ensures.shape, c.reach-reached.ensures.words) at c.leaf_from-leaf.ensures.cost in
    omega (arith, first A s most fits, second A s most fits)
