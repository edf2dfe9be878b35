use Rattle.std.proofs.Common.{arith, ap, ◌∙◌, refl}
use Rattle.std.specs.Prelude.{nat_lt}
use Rattle.meta_trie.proofs.Growing.{counts_shared, front_begins, back_begins}
use Rattle.meta_trie.proofs.Stepping.{found_some, found_place, known_step}
use Rattle.meta_trie.proofs.grows.grow_known.Goals as goal

pub unreachable-requires : goal.unreachable-requires
unreachable-requires g c =
    let st = c.requires.state.1.1.1.1 in
    let count = counts_shared c.requires.state.1.1.0 c.args.anchor.now c.requires.state.1.1.1.0 in
    found_some _ _ _ _ _ _ c.args.anchor.now c.args.leaf c.args.n st.0 st.3 c.requires.within (omega (arith, c.requires.known, st.1, st.2, count)) _ refl c.find.result c.in_default.is (c.find.ensures.value _ st.3.trie)

pub change_item-requires-clause-at : goal.change_item-requires-clause-at
change_item-requires-clause-at g c =
    let st = c.requires.state.1.1.1.1 in
    let f = c.in-Some.ensures.value _ st.3.trie in
    rw c.find.ensures.shape (found_place _ _ (g.R.Rows.words c.args.rows.now) _ _ _ _ c.args.anchor.now c.args.leaf c.args.n st.0 st.3 c.requires.within c.in-Some.found f).0

pub change_item-requires-clause-next : goal.change_item-requires-clause-next
change_item-requires-clause-next g c =
    let st = c.requires.state.1.1.1.1 in
    let f = c.in-Some.ensures.value _ st.3.trie in
    rw (c.find.ensures.shape, c.find.ensures.words) (c.grown_row-row.ensures.next ∙ (found_place _ _ (g.R.Rows.words c.args.rows.now) _ _ _ _ c.args.anchor.now c.args.leaf c.args.n st.0 st.3 c.requires.within c.in-Some.found f).1)

pub returns-clause-grown : goal.returns-clause-grown
returns-clause-grown g c = λ A left lo hi grows front back s.
    let count = counts_shared lo c.args.anchor.now hi in
    let f = c.in-Some.ensures.value _ s.trie in
    let changed = rw (c.find.ensures.shape, c.find.ensures.words) at c.change_item.ensures.words in
    known_step (g.R.Rows.shape c.args.rows.now) (g.R.Rows.words c.args.rows.now) (g.R.Rows.words c.change_item.new.rows) A left lo hi c.args.anchor.now c.args.leaf c.args.n grows s c.requires.within c.in-Some.found f c.grown_row-row.result (nat_lt c.args.n c.args.front) (nat_lt c.args.n c.args.back)
    (omega (arith, c.requires.known, front, back, count))
    (ap (nat_lt c.args.n) front ∙ front_begins lo c.args.anchor.now c.args.n c.requires.within)
    (ap (nat_lt c.args.n) back ∙ back_begins c.args.anchor.now hi c.args.n c.requires.within)
    c.grown_row-row.ensures.says c.grown_row-row.ensures.len changed

pub returns-clause-stays : goal.returns-clause-stays
returns-clause-stays g c = g.met.R.Rows.stays_trans _ _ _ c.find.ensures.stays c.change_item.ensures.stays
