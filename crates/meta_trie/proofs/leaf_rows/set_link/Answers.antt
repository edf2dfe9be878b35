use Rattle.std.proofs.Common.{◌≡◌, ◌+◌, ℕ, List, length, arith, sym, ap, ◌∙◌, subst}
use Rattle.std.proofs.Math.ListN.{set}
use Rattle.row_words.specs.declared.shape.Shape.{Shape}
use Rattle.row_words.specs.Layout.{leaf_word, word_count}
use Rattle.meta_trie.specs.Words.{LinkSet}
use Rattle.meta_trie.proofs.Splicing.{link_put}
use Rattle.meta_trie.proofs.leaf_rows.set_link.Goals as goal

pub returns-clause-words : goal.returns-clause-words
returns-clause-words g c =
    let at : c.leaf_word-row.result ≡ leaf_word (g.R.Rows.shape c.args.rows.now) c.args.leaf = c.leaf_word-row.ensures ∙ ap (λ (k : Shape). leaf_word k c.args.leaf) c.layout.ensures in
    let many : length (g.R.Rows.words c.args.rows.now) ≡ word_count (g.R.Rows.shape c.args.rows.now) = g.met.R.Rows.sized c.args.rows.now in
    subst (λ (v : List ℕ). LinkSet (g.R.Rows.shape c.args.rows.now) (g.R.Rows.words c.args.rows.now) v c.args.leaf c.args.o c.args.link)
    (sym (c.set_word.ensures.words ∙ ap (λ (x : ℕ). set (g.R.Rows.words c.args.rows.now) (x + c.args.o) c.args.link) at))
    (link_put _ _ c.args.leaf c.args.o c.args.link (omega (arith, many, c.requires.leaf, c.requires.o)))
