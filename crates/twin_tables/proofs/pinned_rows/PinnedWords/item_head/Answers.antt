use Rattle.std.proofs.Common.{ap, ◌∙◌}
use Rattle.row_words.specs.declared.shape.Shape.{Shape}
use Rattle.row_words.specs.Layout.{item_word}
use Rattle.twin_tables.specs.Lent.{pinned_shape}
use Rattle.twin_tables.specs.Lending.{pinned_on}
use Rattle.twin_tables.proofs.Reading.{three_reads}
use Rattle.twin_tables.proofs.pinned_rows.PinnedWords.item_head.Goals as goal

pub returns-clause-read : goal.returns-clause-read
returns-clause-read c =
    let first = c.item_word-first.ensures ∙ ap (λ (k : Shape). item_word k c.args.at) c.shape.ensures in
    three_reads (pinned_shape c.args.self.now) _ _ c.args.at c.item_word-first.result _ _ _ _ c.requires c.load-hash.ensures.shape c.load-link.ensures.shape first c.load-hash.ensures.read c.load-link.ensures.read c.load-sides.ensures.read

pub returns-clause-stays : goal.returns-clause-stays
returns-clause-stays c = pinned_on _ _ _ (pinned_on _ _ _ c.load-hash.ensures.stays c.load-link.ensures.stays) c.load-sides.ensures.stays
