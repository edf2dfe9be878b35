use Rattle.std.proofs.Common.{ℕ, sym, ap, ◌∙◌, subst, arith}
use Rattle.anchor_rules.specs.Anchors.{span}
use Rattle.anchor_rules.proofs.Spans.{in_target}
use Rattle.prefix_search.specs.Search.{IsFollowed}
use Rattle.prefix_search.proofs.locates.locate.Goals as goal

pub leaf_from-leaf-requires-clause-hash : goal.leaf_from-leaf-requires-clause-hash
leaf_from-leaf-requires-clause-hash g c = rw c.reach-reached.ensures.shape c.reach-reached.ensures.hash

pub leaf_from-leaf-requires-clause-longest : goal.leaf_from-leaf-requires-clause-longest
leaf_from-leaf-requires-clause-longest g c = rw (c.reach-reached.ensures.shape, c.reach-reached.ensures.words) c.reach-reached.ensures.longest

pub at_leaf-requires-clause-leaf : goal.at_leaf-requires-clause-leaf
at_leaf-requires-clause-leaf g c =
    let leaf = rw (c.reach-reached.ensures.shape, c.reach-reached.ensures.words, c.bytes-bytes.ensures.bytes) at c.leaf_from-leaf.ensures.leaf in
    rw (c.leaf_from-leaf.ensures.shape, c.leaf_from-leaf.ensures.words, c.reach-reached.ensures.shape, c.reach-reached.ensures.words) (λ A s.
    let r = in_target A s.anchors c.args.key.now in
    (r.0, ap (span A) (leaf A s) ∙ r.1))

pub returns-clause-located : goal.returns-clause-located
returns-clause-located g c = λ A s.
    let leaf = rw (c.reach-reached.ensures.shape, c.reach-reached.ensures.words, c.bytes-bytes.ensures.bytes) at c.leaf_from-leaf.ensures.leaf in
    let next = rw (c.leaf_from-leaf.ensures.shape, c.leaf_from-leaf.ensures.words, c.reach-reached.ensures.shape, c.reach-reached.ensures.words) at c.at_leaf.ensures.next in
    record {
      leaf = c.at_leaf.ensures.leaf ∙ leaf A s;
      next = subst (λ (n : ℕ). IsFollowed A n c.at_leaf.result.next) (sym c.at_leaf.ensures.leaf) (next A s);
    }

pub returns-clause-cost : goal.returns-clause-cost
returns-clause-cost g c = λ A s most fits.
    let first = rw c.bytes-bytes.ensures.bytes at c.reach-reached.ensures.cost in
    let second = rw (c.reach-reached.ensures.shape, c.reach-reached.ensures.words) at c.leaf_from-leaf.ensures.cost in
    omega (arith, first A s most fits, second A s most fits, c.at_leaf.ensures.cost)
