use Rattle.std.proofs.Common.{◌≡◌, ◌+◌, ℕ, List, length, get_or, arith, sym, ap, ◌∙◌, subst}
use Rattle.std.specs.Prelude.{max}
use Rattle.std.proofs.Math.ListN.{set}
use Rattle.row_words.specs.Layout.{word_count}
use Rattle.meta_trie.specs.Words.{RowLaid}
use Rattle.meta_trie.proofs.Laying.{laid_words}
use Rattle.meta_trie.proofs.adds.lay_row.Goals as goal

pub returns-clause-words : goal.returns-clause-words
returns-clause-words g c =
    let shape : g.R.Rows.shape c.word-live.new.self ≡ g.R.Rows.shape c.args.rows.now = cc in
    let words : g.R.Rows.words c.word-live.new.self ≡ g.R.Rows.words c.args.rows.now = cc in
    let added = rw (shape, words) at c.add_row.ensures.words in
    let many : length (g.R.Rows.words c.add_row.new.rows) ≡ word_count (g.R.Rows.shape c.add_row.new.rows) = g.met.R.Rows.sized c.add_row.new.rows in
    let longest : c.word-longest.result ≡ get_or (g.R.Rows.words c.args.rows.now) 0 0 = c.word-longest.ensures.value in
    let live : c.word-live.result ≡ get_or (g.R.Rows.words c.args.rows.now) 3 0 = cc in
    let top : c.max.result ≡ max (length c.args.anchor.now) (get_or (g.R.Rows.words c.args.rows.now) 0 0) = omega (arith, c.max.ensures, longest) in
    subst (λ (v : List ℕ). RowLaid (g.R.Rows.shape c.args.rows.now) (g.R.Rows.words c.args.rows.now) v c.args.left c.args.leaf c.args.anchor.now c.args.next)
    (sym (c.set_word-2.ensures.words ∙ ap (λ (w : List ℕ). set w 3 (c.word-live.result + 1)) c.set_word.ensures.words))
    (laid_words _ _ (g.R.Rows.words c.add_row.new.rows) c.args.left c.args.leaf c.args.anchor.now c.args.next c.max.result (c.word-live.result + 1) added (omega (arith, many)) top (ap (λ (n : ℕ). n + 1) live))

pub returns-clause-stays : goal.returns-clause-stays
returns-clause-stays g c = let t = g.met.R.Rows.stays_trans in t _ _ _ (t _ _ _ (t _ _ _ (t _ _ _ c.word-longest.ensures.stays c.word-live.ensures.stays) c.add_row.ensures.stays) c.set_word.ensures.stays) c.set_word-2.ensures.stays
