use Rattle.std.proofs.Common.{◌≡◌, ◌+◌, ◌-◌, arith, ◌∙◌}
use Rattle.row_words.specs.Decode.{item_at}
use Rattle.meta_trie.specs.Trie.{used_of}
use Rattle.meta_trie.proofs.Relinks.{unlinked_words}
use Rattle.meta_trie.proofs.unlinks.unlink_item.Goals as goal

pub returns-clause-words : goal.returns-clause-words
returns-clause-words g c =
    let shape : g.R.Rows.shape c.next_of-next.new.rows ≡ g.R.Rows.shape c.args.rows.now = cc in
    let words : g.R.Rows.words c.next_of-next.new.rows ≡ g.R.Rows.words c.args.rows.now = cc in
    let next : c.next_of-next.result ≡ (item_at (g.R.Rows.shape c.args.rows.now) (g.R.Rows.words c.args.rows.now) c.args.at).next = cc in
    let used : c.word-used.result ≡ used_of (g.R.Rows.words c.args.rows.now) = cc in
    let less : c.word-used.result - 1 + 1 ≡ used_of (g.R.Rows.words c.args.rows.now) = omega (arith, used, c.requires.used) in
    let r1 = rw (shape, words) at c.relink.ensures.words in
    let shape2 : g.R.Rows.shape c.relink.new.rows ≡ g.R.Rows.shape c.args.rows.now = c.relink.ensures.shape ∙ shape in
    let r2 = rw shape2 at c.relink-2.ensures.words in
    unlinked_words _ _ _ _ _ _ _ _ _ _ _ c.requires.at c.requires.bucket next (c.free_link-link.ensures (g.R.Rows.shape c.args.rows.now).items c.args.at ∙ c.word.ensures.value) less (g.met.R.Rows.ranges c.args.rows.now).items.1 r1 r2 c.put.ensures.words

pub returns-clause-stays : goal.returns-clause-stays
returns-clause-stays g c = let t = g.met.R.Rows.stays_trans in t _ _ _ (t _ _ _ (t _ _ _ (t _ _ _ (t _ _ _ c.word.ensures.stays c.word-used.ensures.stays) c.next_of-next.ensures.stays) c.relink.ensures.stays) c.relink-2.ensures.stays) c.put.ensures.stays
