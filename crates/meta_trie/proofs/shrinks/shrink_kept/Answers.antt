use Rattle.std.proofs.Common.{◌+◌, arith, ap, ◌∙◌}
use Rattle.std.specs.Prelude.{nat_lt}
use Rattle.key_bytes.specs.Common.{lcp}
use Rattle.anchor_rules.specs.Items.{shared}
use Rattle.meta_trie.specs.Grows.{back_count}
use Rattle.meta_trie.proofs.Growing.{counts_shared, front_begins, back_begins}
use Rattle.meta_trie.proofs.Shrinking.{child_counts}
use Rattle.meta_trie.proofs.Leaving.{found_always, place, found_next, kept_step}
use Rattle.meta_trie.proofs.shrinks.shrink_kept.Goals as goal

pub unreachable-requires : goal.unreachable-requires
unreachable-requires g c =
    let st = c.requires.state.1.1.1.1 in
    found_always _ _ _ _ _ c.args.anchor.now _ _ _ _ _ c.args.n st.0 st.1 c.requires.within c.find.result c.in_default.is (c.find.ensures.value _ st.1.trie)

pub change_item-requires-clause-at : goal.change_item-requires-clause-at
change_item-requires-clause-at g c =
    let st = c.requires.state.1.1.1.1 in
    let f = c.in-Some.ensures.value _ st.1.trie in
    rw c.find.ensures.shape (place _ _ (g.R.Rows.words c.args.rows.now) _ _ _ c.args.anchor.now _ _ _ _ _ c.args.n st.0 st.1 c.requires.within c.in-Some.found f).stands.in_range

pub change_item-requires-clause-next : goal.change_item-requires-clause-next
change_item-requires-clause-next g c =
    let st = c.requires.state.1.1.1.1 in
    let f = c.in-Some.ensures.value _ st.1.trie in
    rw (c.find.ensures.shape, c.find.ensures.words) (c.shrunk_row-row.ensures.next ∙ found_next _ _ (g.R.Rows.words c.args.rows.now) _ _ _ c.args.anchor.now _ _ _ _ _ c.args.n st.0 st.1 c.requires.within c.in-Some.found f)

pub returns-clause-shrunk : goal.returns-clause-shrunk
returns-clause-shrunk g c = λ A leaf lo hi shrinks s.
    let count = counts_shared lo c.args.anchor.now hi in
    let f = c.in-Some.ensures.value _ s.trie in
    let changed = rw (c.find.ensures.shape, c.find.ensures.words) at c.change_item.ensures.words in
    kept_step (g.R.Rows.shape c.args.rows.now) (g.R.Rows.words c.args.rows.now) (g.R.Rows.words c.change_item.new.rows) A leaf lo c.args.anchor.now hi c.args.left c.args.after c.args.front c.args.back c.args.n shrinks s c.requires.within c.in-Some.found f c.shrunk_row-row.result (nat_lt c.args.n c.args.front) (nat_lt c.args.n c.args.back) _
    (omega (arith, c.requires.known, shrinks.front_is, shrinks.back_is, count))
    (ap (nat_lt c.args.n) shrinks.front_is ∙ front_begins lo c.args.anchor.now c.args.n c.requires.within)
    (ap (nat_lt c.args.n) shrinks.back_is ∙ back_begins c.args.anchor.now hi c.args.n c.requires.within)
    (child_counts c.args.n c.args.front c.args.back (lcp lo c.args.anchor.now + 1) (back_count c.args.anchor.now hi) c.max.result (shared lo c.args.anchor.now hi) c.max.ensures shrinks.front_is shrinks.back_is count)
    c.shrunk_row-row.ensures.says c.shrunk_row-row.ensures.len changed

pub returns-clause-stays : goal.returns-clause-stays
returns-clause-stays g c = g.met.R.Rows.stays_trans _ _ _ c.find.ensures.stays c.change_item.ensures.stays
