use Rattle.std.proofs.Common.{◌≡◌, subst, true}
use Rattle.anchor_rules.specs.Anchors.{Anchors, splits}
use Rattle.meta_trie.proofs.OnlyOne.{stands_only}
use Rattle.meta_trie.proofs.adds.add_anchor.Goals as goal

pub add_counting-requires-clause-table : goal.add_counting-requires-clause-table
add_counting-requires-clause-table g c = (c.requires.table.0, c.requires.table.1.0)

pub add_counting-requires-clause-splits : goal.add_counting-requires-clause-splits
add_counting-requires-clause-splits g c = rw c.bytes.ensures.bytes (λ B t. subst (λ (C : Anchors). splits C c.args.left c.args.anchor.now c.args.leaf ≡ true) (stands_only _ _ c.requires.table.0 B c.requires.table.1.0 t) c.requires.table.1.1)

pub returns-clause-ok : goal.returns-clause-ok
returns-clause-ok g c = rw c.bytes.ensures.bytes at c.add_counting.ensures.ok
