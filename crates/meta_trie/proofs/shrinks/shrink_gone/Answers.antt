use Rattle.std.proofs.Common.{◌≡◌, take, arith}
use Rattle.meta_trie.specs.Trie.{bucket_of}
use Rattle.meta_trie.proofs.Growing.{counts_shared}
use Rattle.meta_trie.proofs.Leaving.{found_always, place, free_small, gone_step}
use Rattle.meta_trie.proofs.shrinks.shrink_gone.Goals as goal

pub unreachable-requires : goal.unreachable-requires
unreachable-requires g c =
    let st = c.requires.state.1.1.1.1 in
    found_always _ _ _ _ _ c.args.anchor.now _ _ _ _ _ c.args.n st.0 st.1 c.requires.within c.find.result c.in_default.is (c.find.ensures.value _ st.1.trie)

pub unlink_item-requires-clause-at : goal.unlink_item-requires-clause-at
unlink_item-requires-clause-at g c =
    let st = c.requires.state.1.1.1.1 in
    let f = c.in-Some.ensures.value _ st.1.trie in
    rw c.find.ensures.shape (place _ _ (g.R.Rows.words c.args.rows.now) _ _ _ c.args.anchor.now _ _ _ _ _ c.args.n st.0 st.1 c.requires.within c.in-Some.found f).stands.in_range

pub unlink_item-requires-clause-before : goal.unlink_item-requires-clause-before
unlink_item-requires-clause-before g c =
    let st = c.requires.state.1.1.1.1 in
    let f = c.in-Some.ensures.value _ st.1.trie in
    rw c.find.ensures.shape (place _ _ (g.R.Rows.words c.args.rows.now) _ _ _ c.args.anchor.now _ _ _ _ _ c.args.n st.0 st.1 c.requires.within c.in-Some.found f).before_low

pub unlink_item-requires-clause-apart : goal.unlink_item-requires-clause-apart
unlink_item-requires-clause-apart g c =
    let st = c.requires.state.1.1.1.1 in
    let f = c.in-Some.ensures.value _ st.1.trie in
    (place _ _ (g.R.Rows.words c.args.rows.now) _ _ _ c.args.anchor.now _ _ _ _ _ c.args.n st.0 st.1 c.requires.within c.in-Some.found f).apart

pub unlink_item-requires-clause-free : goal.unlink_item-requires-clause-free
unlink_item-requires-clause-free g c = let st = c.requires.state.1.1.1.1 in rw c.find.ensures.words (free_small _ _ _ st.1.trie)

pub returns-clause-shrunk : goal.returns-clause-shrunk
returns-clause-shrunk g c = λ A leaf lo hi shrinks s.
    let count = counts_shared lo c.args.anchor.now hi in
    let f = c.in-Some.ensures.value _ s.trie in
    let bucket : c.bucket_by_hash-bucket.result ≡ bucket_of (g.R.Rows.shape c.args.rows.now) (take c.args.n c.args.anchor.now) = cc in
    let u = rw (c.find.ensures.shape, c.find.ensures.words, bucket) at c.unlink_item.ensures.words in
    gone_step (g.R.Rows.shape c.args.rows.now) (g.R.Rows.words c.args.rows.now) (g.R.Rows.words c.unlink_item.new.rows) A leaf lo c.args.anchor.now hi c.args.left c.args.after c.args.front c.args.back c.args.n shrinks s c.requires.within c.in-Some.found f
    (omega (arith, c.requires.alone, shrinks.front_is, shrinks.back_is, count)) u
