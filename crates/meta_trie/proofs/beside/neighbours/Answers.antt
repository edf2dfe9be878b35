use Rattle.std.proofs.Common.{subst}
use Rattle.meta_trie.specs.Links.{IsLinked}
use Rattle.meta_trie.proofs.NextLeaves.{side_live, side_before, side_behind}
use Rattle.meta_trie.proofs.beside.neighbours.Goals as goal

pub leaf-row-requires : goal.leaf-row-requires
leaf-row-requires g c = side_live _ _ _ c.requires.table.0 c.requires.table.1 (c.requires.live c.requires.table.0 c.requires.table.1)

pub returns-clause-before : goal.returns-clause-before
returns-clause-before g c = λ A s. side_before _ _ _ A s (c.requires.live A s) _ (subst (λ n. IsLinked n c.linked.result) c.leaf-row.ensures.previous c.linked.ensures)

pub returns-clause-behind : goal.returns-clause-behind
returns-clause-behind g c = λ A s. side_behind _ _ _ A s (c.requires.live A s) _ (subst (λ n. IsLinked n c.linked-2.result) c.leaf-row.ensures.next c.linked-2.ensures)
