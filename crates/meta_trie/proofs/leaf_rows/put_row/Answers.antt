use Rattle.std.proofs.Common.{rules, ◌≡◌, ℕ, length, arith, ap, ◌∙◌, subst}
use Rattle.row_words.specs.declared.shape.Shape.{Shape}
use Rattle.row_words.specs.Layout.{leaf_word}
use Rattle.row_words.specs.declared.layout.TheConstants.{LEAF_WORDS}
use Rattle.meta_trie.specs.Words.{Put}
use Rattle.meta_trie.proofs.RowWrites.{row_put}
use Rattle.meta_trie.proofs.leaf_rows.put_row.Goals as goal

pub returns-clause-words : goal.returns-clause-words
returns-clause-words g c =
    let at : c.leaf_word-row.result ≡ leaf_word (g.R.Rows.shape c.args.rows.now) c.args.leaf = c.leaf_word-row.ensures ∙ ap (λ (k : Shape). leaf_word k c.args.leaf) c.layout.ensures in
    let many : length c.row_values-values.result ≡ LEAF_WORDS = search rules in
    row_put _ _ _ c.row_values-values.result c.args.leaf c.args.anchor.now c.args.previous c.args.next c.requires.leaf c.requires.short many (omega (arith, c.ranges.previous)) (omega (arith, c.ranges.next)) c.row_values-values.ensures
    (subst (λ (x : ℕ). Put (g.R.Rows.words c.args.rows.now) (g.R.Rows.words c.put.new.rows) x c.row_values-values.result) at c.put.ensures.words)
