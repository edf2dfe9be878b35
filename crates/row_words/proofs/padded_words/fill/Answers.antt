use Rattle.std.proofs.Common.{◌+◌, ◌≤◌, List, [], ◌∷◌, ◌++◌, ℕ, vec_len, ap, ◌∙◌, arith}
use Rattle.row_words.proofs.Padding.{zeros_more}
use Rattle.row_words.proofs.padded_words.fill.Goals as goal

pub loop-i-preserved : goal.loop-i-preserved
loop-i-preserved c =
    let old = c.args.words.now in
    let inv = c.loop-i.invariant in
    let le : vec_len old ≤ c.loop-i._i = omega arith in
    record {
      items = c.push_reserved.ensures.items ∙ ap (λ (xs : List ℕ). xs ++ 0 ∷ []) inv.items ∙ zeros_more old.items (vec_len old) c.loop-i._i le;
      many = c.push_reserved.ensures.len ∙ ap (λ (n : ℕ). n + 1) inv.many;
      room = c.push_reserved.ensures.capacity ∙ inv.room;
    }
