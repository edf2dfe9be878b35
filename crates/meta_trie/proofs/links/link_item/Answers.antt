use Rattle.std.proofs.Common.{◌≡◌, ◌+◌, ℕ, ap}
use Rattle.row_words.specs.Decode.{head_at}
use Rattle.meta_trie.specs.Trie.{bucket_of, free_after, used_of}
use Rattle.meta_trie.proofs.Segments.{linked_from}
use Rattle.meta_trie.proofs.links.link_item.Goals as goal

pub returns-clause-words : goal.returns-clause-words
returns-clause-words g c =
    let shape : g.R.Rows.shape c.free_behind-free.new.rows ≡ g.R.Rows.shape c.args.rows.now = cc in
    let words : g.R.Rows.words c.free_behind-free.new.rows ≡ g.R.Rows.words c.args.rows.now = cc in
    let w = rw (shape, words) at c.write_item.ensures.words in
    let bucket : c.bucket_by_hash-bucket.result ≡ bucket_of (g.R.Rows.shape c.args.rows.now) c.args.prefix.now = cc in
    let used : c.word-used.result ≡ used_of (g.R.Rows.words c.args.rows.now) = cc in
    let free : c.free_behind-free.result ≡ free_after (g.R.Rows.shape c.args.rows.now) (g.R.Rows.words c.args.rows.now) c.first_free-at.result = cc in
    let next : c.head-next.result ≡ head_at (g.R.Rows.shape c.args.rows.now) (g.R.Rows.words c.args.rows.now) (c.bucket_by_hash-bucket.result) = cc in
    linked_from _ _ _ _ _ _ _ _ _ _ c.args.prefix.now w c.first_free-at.ensures.range (g.met.R.Rows.ranges c.args.rows.now) bucket (ap (λ (n : ℕ). n + 1) used) free next c.first_free-at.ensures.at c.requires.hash

pub returns-clause-stays : goal.returns-clause-stays
returns-clause-stays g c = let t = g.met.R.Rows.stays_trans in t _ _ _ (t _ _ _ (t _ _ _ (t _ _ _ c.first_free-at.ensures.stays c.head-next.ensures.stays) c.word-used.ensures.stays) c.free_behind-free.ensures.stays) c.write_item.ensures.stays
