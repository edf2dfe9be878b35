use Rattle.std.proofs.Common.{◌≡◌, ℕ, ◌-◌, ◌<◌, ◌≤◌, List, [], ◌∷◌, ◌++◌, length, replicate, vec_len, vec_capacity, subst, sym, ap, ◌∙◌, arith}
use Rattle.std.proofs.Math.ListN.{set}
use Rattle.row_words.specs.Padded.{padded}
use Rattle.row_words.proofs.Padding.{length-padded, set_zero, set_behind}
use Rattle.row_words.proofs.padded_words.PaddedWords.set.Goals as goal

pub returns-then-word-ne0 : goal.returns-then-word-ne0
returns-then-word-ne0 c =
    let kept = c.self.inside.kept in
    let new = c.push_reserved.new.self in
    let many : vec_len kept ≡ length kept.items = kept.ok.0 in
    let le : length kept.items ≤ c.args.i = omega arith in
    let l : c.args.i < vec_capacity kept = omega (arith, ap length c.self.view_is, length-padded kept.items (vec_capacity kept) (omega (arith, many, kept.ok.1))) in
    let items : new.items ≡ (kept.items ++ replicate (c.args.i - length kept.items) 0) ++ c.args.word ∷ [] =
    c.push_reserved.ensures.items ∙ ap (λ (xs : List ℕ). xs ++ c.args.word ∷ []) (c.fill.ensures.items ∙ ap (λ (n : ℕ). kept.items ++ replicate (c.args.i - n) 0) many) in
    ap (λ (n : ℕ). padded new.items n) (c.push_reserved.ensures.capacity ∙ c.fill.ensures.capacity)
    ∙ ap (λ (xs : List ℕ). padded xs (vec_capacity kept)) items
    ∙ sym (set_behind kept.items (vec_capacity kept) c.args.i c.args.word le l)
    ∙ ap (λ (xs : List ℕ). set xs c.args.i c.args.word) c.self.view_is

pub returns-else-word-ne0 : goal.returns-else-word-ne0
returns-else-word-ne0 c =
    let kept = c.self.inside.kept in
    let le : length kept.items ≤ c.args.i = omega (arith, kept.ok.0) in
    sym (ap (λ (w : ℕ). set c.args.self.now c.args.i w) c.if-word-ne0.false ∙ subst (λ (ws : List ℕ). set ws c.args.i 0 ≡ ws) c.self.view_is (set_zero kept.items (vec_capacity kept) c.args.i le))
