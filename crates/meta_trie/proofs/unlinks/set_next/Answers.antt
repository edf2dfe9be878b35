use Rattle.std.proofs.Common.{◌≡◌, ◌+◌, ◌/◌, ℕ, List, length, get_or, arith, sym, ap, ◌∙◌, subst}
use Rattle.std.proofs.Math.ListN.{set}
use Rattle.row_words.specs.declared.shape.Shape.{Shape}
use Rattle.row_words.specs.Layout.{item_word, word_count}
use Rattle.row_words.specs.declared.layout.TheConstants.{UPPER}
use Rattle.meta_trie.specs.Words.{NextSet}
use Rattle.meta_trie.proofs.Relinks.{next_set}
use Rattle.meta_trie.proofs.unlinks.set_next.Goals as goal

pub returns-clause-words : goal.returns-clause-words
returns-clause-words g c =
    let at : c.item_word-place.result ≡ item_word (g.R.Rows.shape c.args.rows.now) c.args.at = c.item_word-place.ensures ∙ ap (λ (k : Shape). item_word k c.args.at) c.layout.ensures in
    let many : length (g.R.Rows.words c.args.rows.now) ≡ word_count (g.R.Rows.shape c.args.rows.now) = g.met.R.Rows.sized c.args.rows.now in
    let word = c.word-word.ensures.value ∙ ap (λ (y : ℕ). get_or (g.R.Rows.words c.args.rows.now) (y + 1) 0) at in
    subst (λ (v : List ℕ). NextSet (g.R.Rows.shape c.args.rows.now) (g.R.Rows.words c.args.rows.now) v c.args.at c.args.next)
    (sym (c.set_word.ensures.words ∙ ap (λ (w : List ℕ). set w (c.item_word-place.result + 1) c.with_next.result) c.word-word.ensures.words ∙ ap (λ (y : ℕ). set (g.R.Rows.words c.args.rows.now) (y + 1) c.with_next.result) at))
    (next_set (g.R.Rows.shape c.args.rows.now) (g.R.Rows.words c.args.rows.now) c.args.at c.with_next.result c.args.next (omega (arith, many, c.requires)) c.with_next.ensures.next (c.with_next.ensures.rest ∙ ap (λ (w : ℕ). w / UPPER) word))
