use Rattle.std.proofs.Common.{◌≡◌, ◌/◌, ◌+◌, ◌*◌, length, get_or, arith}
use Rattle.std.proofs.lemmas.List.{take_rest}
use mathlib.Core.Bool.{false≢true}
use Rattle.row_words.specs.Layout.{leaf_word}
use Rattle.row_words.proofs.Beginnings.{word_other, last_same, last_begins}
use Rattle.row_words.proofs.words.begins.Goals as goal

pub returns-then-leaf_part-whole_word-clause-value : goal.returns-then-leaf_part-whole_word-clause-value
returns-then-leaf_part-whole_word-clause-value g c = (
  λ h. absurd (false≢true h),
  λ e. let base = leaf_word (g.W.LeafParts.shape c.args.words.now) c.args.leaf in
      let place : base + (1 + c.loop-i.i) ≡ base + 1 + c.loop-i.i = omega arith in
      let now : c.leaf_part.result ≡ get_or (g.W.LeafParts.words c.args.words.now) (base + 1 + c.loop-i.i) 0 = cc in
      absurd (word_other _ _ _ c.loop-i.i _ c.leaf_part.result c.whole_word.result now c.if-leaf_part-whole_word.true (omega (arith, c.leaf_part.type_inv)) (omega (arith, c.whole_word.type_inv)) c.whole_word.ensures (omega (arith, c.loop-i-test.true)) e),
)

pub returns-clause-value : goal.returns-clause-value
returns-clause-value g c =
    let base = leaf_word (g.W.LeafParts.shape c.args.words.now) c.args.leaf in
    let whole = length c.args.bytes.now / 8 in
    let place : base + (1 + whole) ≡ base + 1 + whole = omega arith in
    let now : c.leaf_part-last.result ≡ get_or (g.W.LeafParts.words c.args.words.now) (base + 1 + whole) 0 = cc in
    let rest = take_rest c.args.bytes.now (8 * whole) in (
      λ h. last_same _ c.args.bytes.now _ _ whole c.leaf_part-last.result now (omega arith) rest (λ j l. c.loop-i.invariant.same j (omega (arith, l, c.loop-i-test.false))) (c.word_begins.ensures.0 h),
      λ e. c.word_begins.ensures.1 (last_begins _ c.args.bytes.now _ _ whole c.leaf_part-last.result now (omega arith) rest e),
    )
