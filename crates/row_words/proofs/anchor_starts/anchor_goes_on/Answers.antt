use Rattle.std.proofs.Common.{◌≡◌, ℕ, ◌+◌, ◌-◌, ◌<◌, ◌*◌, ◌/◌, ◌%◌, ◌^◌, arith, ap, sym, ◌∙◌, length, get_or}
use mathlib.Core.Bool.{false≢true}
use Rattle.row_words.specs.Bytes.{byte_at}
use Rattle.row_words.specs.Layout.{leaf_word}
use Rattle.row_words.specs.Decode.{mark_at}
use Rattle.row_words.proofs.Anchored.{anchor_ends, goes_on, goes_front, goes_last}
use Rattle.row_words.proofs.anchor_starts.anchor_goes_on.Goals as goal

pub returns-then-len-mark-clause-value : goal.returns-then-len-mark-clause-value
returns-then-len-mark-clause-value g c = (
  λ h. absurd (false≢true h),
  λ same. let k = g.W.LeafParts.shape c.args.words.now in
      let ws = g.W.LeafParts.words c.args.words.now in
      let first : leaf_word k c.args.leaf + 0 ≡ leaf_word k c.args.leaf = omega arith in
      let mark : c.leaf_part-mark.result ≡ mark_at k ws c.args.leaf = cc in
      absurd (anchor_ends k ws c.args.leaf c.args.prefix.now c.args.byte c.leaf_part-mark.result mark (omega (arith, c.if-len-mark.true)) same),
)

pub returns-then-word-len-clause-value : goal.returns-then-word-len-clause-value
returns-then-word-len-clause-value g c = (
  λ h. absurd (false≢true h),
  λ same. let k = g.W.LeafParts.shape c.args.words.now in
      let ws = g.W.LeafParts.words c.args.words.now in
      let n : ℕ = length c.args.prefix.now in
      let first : leaf_word k c.args.leaf + 0 ≡ leaf_word k c.args.leaf = omega arith in
      let mark : c.leaf_part-mark.result ≡ mark_at k ws c.args.leaf = cc in
      let place : leaf_word k c.args.leaf + (1 + n / 8) ≡ leaf_word k c.args.leaf + 1 + n / 8 = omega arith in
      let word : c.leaf_part-word.result ≡ get_or ws (leaf_word k c.args.leaf + 1 + n / 8) 0 = cc in
      let byte = goes_last k ws c.args.leaf c.args.prefix.now c.args.byte c.leaf_part-mark.result mark (omega (arith, c.if-len-mark.false)) same in
      absurd (c.if-word-len.true (ap (λ (w : ℕ). w / 2 ^ (8 * (n % 8)) % 256) word ∙ byte)),
)

pub returns-clause-value : goal.returns-clause-value
returns-clause-value g c =
    let k = g.W.LeafParts.shape c.args.words.now in
    let ws = g.W.LeafParts.words c.args.words.now in
    let n : ℕ = length c.args.prefix.now in
    let first : leaf_word k c.args.leaf + 0 ≡ leaf_word k c.args.leaf = omega arith in
    let mark : c.leaf_part-mark.result ≡ mark_at k ws c.args.leaf = cc in
    let place : leaf_word k c.args.leaf + (1 + n / 8) ≡ leaf_word k c.args.leaf + 1 + n / 8 = omega arith in
    let word : c.leaf_part-word.result ≡ get_or ws (leaf_word k c.args.leaf + 1 + n / 8) 0 = cc in
    let byte : byte_at ws (leaf_word k c.args.leaf + 1) n ≡ c.args.byte = ap (λ (w : ℕ). w / 2 ^ (8 * (n % 8)) % 256) (sym word) ∙ c.if-word-len.false in
    let more : n < c.leaf_part-mark.result - 1 = omega (arith, c.if-len-mark.false) in
    let begins = rw (c.leaf_part-word.ensures.shape, c.leaf_part-word.ensures.words, c.leaf_part-mark.ensures.shape, c.leaf_part-mark.ensures.words) at c.leaf_begins.ensures.value in (
      λ h. goes_on k ws c.args.leaf c.args.prefix.now c.args.byte c.leaf_part-mark.result mark more (begins.0 h) byte,
      λ same. begins.1 (goes_front k ws c.args.leaf c.args.prefix.now c.args.byte c.leaf_part-mark.result mark more same),
    )
