use Rattle.std.proofs.Common.{arith, refl}
use Rattle.meta_trie.proofs.Growing.{counts_shared}
use Rattle.meta_trie.proofs.Linking.{free_some}
use Rattle.meta_trie.proofs.Starting.{no_bit}
use Rattle.meta_trie.proofs.Stepping.{some_free, fresh_step}
use Rattle.meta_trie.proofs.grows.grow_fresh.Goals as goal

pub link_item-requires-clause-some : goal.link_item-requires-clause-some
link_item-requires-clause-some g c =
    let st = c.requires.state.1.1.1.1 in
    let count = counts_shared c.requires.state.1.1.0 c.args.anchor.now c.requires.state.1.1.1.0 in
    free_some _ _ _ st.3.trie (some_free _ _ (g.R.Rows.words c.args.rows.now) _ _ _ _ c.args.anchor.now c.args.leaf c.args.n st.0 st.3 c.requires.within (omega (arith, c.requires.fresh, st.1, st.2, count)))

pub returns-clause-grown : goal.returns-clause-grown
returns-clause-grown g c = λ A left lo hi grows front back s.
    let count = counts_shared lo c.args.anchor.now hi in
    fresh_step (g.R.Rows.shape c.args.rows.now) (g.R.Rows.words c.args.rows.now) (g.R.Rows.words c.link_item.new.rows) A left lo hi c.args.anchor.now c.args.leaf c.args.n grows s c.requires.within c.link_item.result c.grown_row-row.result
    (omega (arith, c.requires.fresh, front, back, count))
    (c.grown_row-row.ensures.says _ (record { anchor = refl; first = refl; last = refl; children = λ b l. no_bit b }))
    c.grown_row-row.ensures.len c.link_item.ensures.words
