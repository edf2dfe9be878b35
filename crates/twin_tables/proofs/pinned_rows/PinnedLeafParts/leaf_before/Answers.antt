use Rattle.std.proofs.Common.{ap, ◌∙◌}
use Rattle.row_words.specs.declared.shape.Shape.{Shape}
use Rattle.row_words.specs.Layout.{leaf_word}
use Rattle.twin_tables.specs.Lent.{pinned_shape}
use Rattle.twin_tables.proofs.Reading.{one_read_leaf}
use Rattle.twin_tables.proofs.pinned_rows.PinnedLeafParts.leaf_before.Goals as goal

pub returns-clause-read : goal.returns-clause-read
returns-clause-read c =
    let first = c.leaf_word-first.ensures ∙ ap (λ (k : Shape). leaf_word k c.args.leaf) c.shape.ensures in
    one_read_leaf (pinned_shape c.args.self.now) c.args.leaf c.leaf_word-first.result _ _ first c.load.ensures.read
