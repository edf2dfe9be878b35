use Rattle.std.proofs.Common.{◌+◌, refl, ap, ◌∙◌, arith}
use Rattle.row_words.specs.declared.shape.Shape.{Shape}
use Rattle.row_words.specs.Layout.{item_word}
use Rattle.twin_tables.specs.Lent.{pinned_shape}
use Rattle.twin_tables.specs.Lending.{pinned_on}
use Rattle.twin_tables.proofs.Reading.{no_read_item}
use Rattle.twin_tables.proofs.pinned_rows.PinnedWords.item_bits.Goals as goal

pub returns-clause-read : goal.returns-clause-read
returns-clause-read c =
    let k = pinned_shape c.args.self.now in
    let at = c.item_word-first.result in
    let first = c.item_word-first.ensures ∙ ap (λ (k : Shape). item_word k c.args.at) c.shape.ensures in
    let less = c.requires in
    let one = c.load-a.ensures.shape in
    let two = c.load-b.ensures.shape ∙ one in
    let three = c.load-c.ensures.shape ∙ two in
    let a = no_read_item k k c.args.at 3 (at + 3) less refl (omega (arith, first)) (omega arith) (omega arith) in
    let b = no_read_item k (pinned_shape c.load-a.new.self) c.args.at 4 (at + 3 + 1) less one (omega (arith, first)) (omega arith) (omega arith) in
    let e = no_read_item k (pinned_shape c.load-b.new.self) c.args.at 5 (at + 3 + 2) less two (omega (arith, first)) (omega arith) (omega arith) in
    let f = no_read_item k (pinned_shape c.load-c.new.self) c.args.at 6 (at + 3 + 3) less three (omega (arith, first)) (omega arith) (omega arith) in
    omega (arith, a, b, e, f, c.load-a.ensures.read, c.load-b.ensures.read, c.load-c.ensures.read, c.load-d.ensures.read)

pub returns-clause-stays : goal.returns-clause-stays
returns-clause-stays c = pinned_on _ _ _ (pinned_on _ _ _ (pinned_on _ _ _ c.load-a.ensures.stays c.load-b.ensures.stays) c.load-c.ensures.stays) c.load-d.ensures.stays
