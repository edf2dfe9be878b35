use Rattle.std.proofs.Common.{◌≡◌, ℕ, [], ◌∷◌, ap, ◌∙◌, subst}
use Rattle.row_words.specs.declared.shape.Shape.{Shape}
use Rattle.row_words.specs.Layout.{leaf_word}
use Rattle.meta_trie.specs.Words.{Put}
use Rattle.meta_trie.proofs.Starting.{bare_words}
use Rattle.meta_trie.proofs.starts.lay_bare.Goals as goal

pub returns-clause-words : goal.returns-clause-words
returns-clause-words g c =
    let row : c.leaf_word-row.result ≡ leaf_word (g.R.Rows.shape c.args.rows.now) 0 = c.leaf_word-row.ensures ∙ ap (λ (k : Shape). leaf_word k 0) (c.layout.ensures ∙ c.put.ensures.shape) in
    rw (c.put-2.ensures.shape ∙ c.put.ensures.shape) (bare_words (g.R.Rows.shape c.args.rows.now) _ _ _ (g.met.R.Rows.ranges c.args.rows.now) c.requires c.put.ensures.words (subst (λ (x : ℕ). Put (g.R.Rows.words c.put.new.rows) (g.R.Rows.words c.put-2.new.rows) x (1 ∷ [])) row c.put-2.ensures.words))
