use Rattle.std.proofs.Common.{arith, sym, ◌∙◌}
use Rattle.std.proofs.lemmas.Bool.{lt-ltb}
use Rattle.meta_trie.proofs.Growing.{counts_shared, front_begins, back_begins}
use Rattle.meta_trie.proofs.Laying.{shared_fits}
use Rattle.meta_trie.proofs.Stepping.{unchanged_step}
use Rattle.meta_trie.proofs.grows.grow_item.Goals as goal

pub returns-then-n-max-clause-grown : goal.returns-then-n-max-clause-grown
returns-then-n-max-clause-grown g c = λ A left lo hi grows front back s.
    let a = c.args.anchor.now in
    let count = counts_shared lo a hi in
    let fits = shared_fits lo a hi in
    let both = c.if-n-min.true in
    let longer = c.if-n-max.true in
    unchanged_step _ _ A left lo hi a c.args.leaf c.args.n grows s (omega (arith, longer, c.max.ensures, front, back, count, fits)) (omega (arith, longer, c.max.ensures, front, back, count))
    (sym (front_begins lo a c.args.n c.requires.within) ∙ lt-ltb _ _ (omega (arith, both, c.min.ensures, front)))
    (sym (back_begins a hi c.args.n c.requires.within) ∙ lt-ltb _ _ (omega (arith, both, c.min.ensures, back)))
