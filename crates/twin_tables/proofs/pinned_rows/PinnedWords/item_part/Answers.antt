use Rattle.std.proofs.Common.{◌+◌, ℕ, refl, ap, ◌∙◌, arith}
use Rattle.row_words.specs.declared.shape.Shape.{Shape}
use Rattle.row_words.specs.Layout.{item_word}
use Rattle.twin_tables.specs.Lent.{pinned_shape}
use Rattle.twin_tables.proofs.Reading.{no_read_item}
use Rattle.twin_tables.proofs.pinned_rows.PinnedWords.item_part.Goals as goal

pub returns-clause-read : goal.returns-clause-read
returns-clause-read c =
    let first = c.item_word-first.ensures ∙ ap (λ (k : Shape). item_word k c.args.at) c.shape.ensures in
    let none = no_read_item (pinned_shape c.args.self.now) (pinned_shape c.args.self.now) c.args.at c.args.word (c.item_word-first.result + c.args.word) c.requires.at refl (ap (λ (n : ℕ). n + c.args.word) first) c.requires.word c.requires.inner in
    omega (arith, none, c.load.ensures.read)
