use Rattle.std.proofs.Common.{◌≡◌, ◌+◌, arith, sym, ◌∙◌, length}
use mathlib.Core.Bool.{false≢true}
use Rattle.row_words.specs.Layout.{leaf_word}
use Rattle.row_words.specs.Decode.{mark_at}
use Rattle.row_words.proofs.Anchored.{anchor_short, anchor_bytes}
use Rattle.row_words.proofs.anchor_starts.anchor_begins.Goals as goal

pub returns-then-prefix-mark-clause-value : goal.returns-then-prefix-mark-clause-value
returns-then-prefix-mark-clause-value g c = (
  λ h. absurd (false≢true h),
  λ same. let k = g.W.LeafParts.shape c.args.words.now in
      let ws = g.W.LeafParts.words c.args.words.now in
      let first : leaf_word k c.args.leaf + 0 ≡ leaf_word k c.args.leaf = omega arith in
      let mark : c.leaf_part-mark.result ≡ mark_at k ws c.args.leaf = cc in
      absurd (anchor_short k ws c.args.leaf c.args.prefix.now c.leaf_part-mark.result mark (omega (arith, mark, c.requires.1)) (omega (arith, c.if-prefix-mark.true)) same),
)

pub returns-clause-value : goal.returns-clause-value
returns-clause-value g c =
    let k = g.W.LeafParts.shape c.args.words.now in
    let ws = g.W.LeafParts.words c.args.words.now in
    let first : leaf_word k c.args.leaf + 0 ≡ leaf_word k c.args.leaf = omega arith in
    let mark : c.leaf_part-mark.result ≡ mark_at k ws c.args.leaf = cc in
    let same = anchor_bytes k ws c.args.leaf (length c.args.prefix.now) c.leaf_part-mark.result mark (omega (arith, c.if-prefix-mark.false)) in
    let begins = rw (c.leaf_part-mark.ensures.shape, c.leaf_part-mark.ensures.words) at c.leaf_begins.ensures.value in (
      λ h. same ∙ begins.0 h,
      λ e. begins.1 (sym same ∙ e),
    )
