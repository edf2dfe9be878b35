use Rattle.std.proofs.Common.{rules, ◌≡◌, ◌+◌, ℕ, [], ◌∷◌, get_or, ap, ◌∙◌, subst}
use Rattle.row_words.specs.declared.shape.Shape.{Shape}
use Rattle.row_words.specs.Layout.{item_word}
use Rattle.meta_trie.specs.Words.{Put}
use Rattle.meta_trie.proofs.Four.{four}
use Rattle.meta_trie.proofs.Writes.{changed_words}
use Rattle.meta_trie.proofs.changes.change_item.Goals as goal

pub returns-clause-words : goal.returns-clause-words
returns-clause-words g c =
    let base : c.item_word-base.result ≡ item_word (g.R.Rows.shape c.args.rows.now) c.args.at = c.item_word-base.ensures ∙ ap (λ (k : Shape). item_word k c.args.at) c.layout.ensures in
    changed_words (g.R.Rows.shape c.args.rows.now) (g.R.Rows.words c.args.rows.now) (g.R.Rows.words c.put.new.rows) c.args.at c.pack_link-link.result c.pack_sides-sides.result (get_or c.args.item.now.bits 0 0) (get_or c.args.item.now.bits 1 0) (get_or c.args.item.now.bits 2 0) (get_or c.args.item.now.bits 3 0) c.requires.at
    (subst (λ (x : ℕ). Put (g.R.Rows.words c.args.rows.now) (g.R.Rows.words c.put.new.rows) (x + 1) (c.pack_link-link.result ∷ c.pack_sides-sides.result ∷ get_or c.args.item.now.bits 0 0 ∷ get_or c.args.item.now.bits 1 0 ∷ get_or c.args.item.now.bits 2 0 ∷ get_or c.args.item.now.bits 3 0 ∷ [])) base c.put.ensures.words)
    c.args.item.now
    (record {
      next_is = c.pack_link-link.ensures.next ∙ c.requires.next;
      len_is = c.pack_link-link.ensures.len;
      mark_is = c.pack_link-link.ensures.mark;
      first_is = c.pack_sides-sides.ensures.first;
      last_is = c.pack_sides-sides.ensures.last;
      bits_are = four c.args.item.now.bits (search rules);
    })
