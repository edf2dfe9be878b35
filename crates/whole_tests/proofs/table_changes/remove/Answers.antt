use Rattle.std.proofs.Common.{refl, sym, ◌∙◌}
use Rattle.meta_trie.proofs.Merging.{adjacent_can_merge}
use Rattle.whole_tests.proofs.Tables.{same_table}
use Rattle.whole_tests.proofs.table_changes.remove.Goals as goal

pub remove_anchor-requires : goal.remove_anchor-requires
remove_anchor-requires c = adjacent_can_merge _ _ c.args.anchors.now c.args.left c.args.right c.requires (sym c.adjacent.ensures ∙ c.if-not-adjacent.false)

pub returns : goal.returns
returns c = same_table _ _ _ _ _ _ c.remove_anchor.ensures.shape refl c.with_merge.ensures (c.remove_anchor.ensures.removed c.args.anchors.now c.requires)
