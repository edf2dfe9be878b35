use Rattle.std.proofs.Common.{refl}
use Rattle.whole_tests.proofs.Tables.{same_table}
use Rattle.whole_tests.proofs.table_changes.add.Goals as goal

pub returns-in_ok-with_split-in-Ok-add_anchor : goal.returns-in_ok-with_split-in-Ok-add_anchor
returns-in_ok-with_split-in-Ok-add_anchor c =
    same_table _ _ _ _ _ _ c.add_anchor.ensures.shape refl c.in_ok-with_split-in-Ok-add_anchor.ensures.split (c.in-Ok-add_anchor.ensures.ok c.args.anchors.now (same_table _ _ _ _ _ _ c.free_leaf.ensures.shape c.free_leaf.ensures.words refl c.requires))
