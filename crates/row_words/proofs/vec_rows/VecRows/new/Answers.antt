use Rattle.std.proofs.Common.{◌≡◌, ℕ, ◌*◌, replicate}
use Rattle.row_words.specs.VecRows.{joined}
use Rattle.row_words.proofs.Padding.{zeros_parts}
use Rattle.row_words.proofs.vec_rows.VecRows.new.Goals as goal

pub returns-clause-words : goal.returns-clause-words
unfolding joined
returns-clause-words c =
    let k = c.args.shape.now in
    let heads : c.in_ok-new.field-0 ≡ replicate {A = ℕ} k.heads 0 = c.in_ok-new.ensures in
    let items : c.in_ok-new-2.field-0 ≡ replicate {A = ℕ} (8 * k.items) 0 = c.in_ok-new-2.ensures in
    let leaves : c.in_ok-new-3.field-0 ≡ replicate {A = ℕ} (35 * k.leaves) 0 = c.in_ok-new-3.ensures in
    cc (zeros_parts 4 k.heads (8 * k.items) (35 * k.leaves))
