use Rattle.std.proofs.Common.{◌≡◌, ◌+◌, ◌*◌, ◌/◌, ℕ, length, ap, sym, ◌∙◌, arith}
use Rattle.row_words.specs.Bytes.{bytes_from}
use Rattle.row_words.specs.Layout.{leaf_word}
use Rattle.row_words.specs.VecRows.{shape_of, words_of}
use Rattle.row_words.proofs.Joined.{leaf_bytes}
use Rattle.row_words.proofs.vec_rows.VecRowsWords.leaf_begins.Goals as goal

pub returns-in-Some-clause-value : goal.returns-in-Some-clause-value
returns-in-Some-clause-value c =
    let rows = c.args.self.now in
    let k = shape_of rows in
    let len : ℕ = length c.args.bytes.now in
    let front : ℕ = 4 + k.heads + 8 * k.items in
    let from : ℕ = 35 * c.args.leaf + 1 in
    let many : length rows.header + length rows.heads + length rows.items ≡ front = omega (arith, rows.header_sized, rows.heads_sized, rows.items_sized) in
    let place : front + from ≡ leaf_word k c.args.leaf + 1 = omega arith in
    let same : bytes_from c.in-Some.words.now 0 len ≡ bytes_from (words_of rows) (leaf_word k c.args.leaf + 1) len =
    leaf_bytes rows.header rows.heads rows.items rows.leaves c.in-Some.words.now front from (len / 8 + 1) len many c.in-Some.ensures.words (omega arith)
    ∙ ap (λ (at : ℕ). bytes_from (words_of rows) at len) place in (
      λ h. sym same ∙ c.words_begin.ensures.0 h,
      λ e. c.words_begin.ensures.1 (same ∙ e),
    )
