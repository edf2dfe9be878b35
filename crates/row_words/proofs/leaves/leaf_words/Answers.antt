use Rattle.std.proofs.Common.{◌≡◌, ◌+◌, ◌-◌, ℕ, arith, ◌∙◌, ap}
use Rattle.row_words.specs.Decode.{mark_at}
use Rattle.row_words.specs.Bytes.{bytes_from}
use Rattle.row_words.specs.Layout.{leaf_word}
use Rattle.row_words.proofs.Packed.{row_bytes}
use Rattle.row_words.proofs.leaves.leaf_words.Goals as goal

pub returns-clause-anchor : goal.returns-clause-anchor
returns-clause-anchor g c =
    let base : ℕ = leaf_word (g.W.LeafParts.shape c.args.words.now) c.args.at in
    let first : base + 0 ≡ base = omega arith in
    let mark : c.leaf_part-mark.result ≡ mark_at (g.W.LeafParts.shape c.args.words.now) (g.W.LeafParts.words c.args.words.now) c.args.at = cc in
    row_bytes c.loop-j.packed (g.W.LeafParts.words c.args.words.now) (base + 1) (c.leaf_part-mark.result - 1) (λ j l. c.loop-j.invariant.same j (omega (arith, l, c.loop-j-test.false)))
    ∙ ap (λ (n : ℕ). bytes_from (g.W.LeafParts.words c.args.words.now) (base + 1) (n - 1)) mark
