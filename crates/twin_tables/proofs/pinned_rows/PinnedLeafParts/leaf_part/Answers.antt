use Rattle.std.proofs.Common.{ap, ◌∙◌}
use Rattle.row_words.specs.declared.shape.Shape.{Shape}
use Rattle.row_words.specs.Layout.{leaf_word}
use Rattle.twin_tables.specs.Lent.{pinned_shape}
use Rattle.twin_tables.proofs.Reading.{no_read_leaf}
use Rattle.twin_tables.proofs.pinned_rows.PinnedLeafParts.leaf_part.Goals as goal

pub returns-clause-read : goal.returns-clause-read
returns-clause-read c =
    let first = c.leaf_word-first.ensures ∙ ap (λ (k : Shape). leaf_word k c.args.leaf) c.shape.ensures in
    no_read_leaf (pinned_shape c.args.self.now) c.args.leaf c.args.word c.leaf_word-first.result _ _ first c.requires.word c.requires.inner c.load.ensures.read
