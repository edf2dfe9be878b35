use Rattle.std.proofs.Common.{arith, ◌∙◌, ap, length, sym, subst}
use Rattle.map_model.specs.Maps.{sorted}
use Rattle.leaf_tags.specs.Tags.{renumbered}
use Rattle.leaf_store.specs.Rows.{AreTags}
use Rattle.leaf_store.proofs.Unsorted.{length-sorted}
use Rattle.leaf_store.proofs.Tagged.{tag_row}
use Rattle.leaf_store.proofs.Settled.{length-tags}
use Rattle.leaf_store.proofs.Ranked.{length-ranks, tags_renumbered}
use Rattle.leaf_store.proofs.ranks.settle.Goals as goal

pub renumber-requires : goal.renumber-requires
renumber-requires g c = λ tag place has.
    let are = rw c.deref.ensures.value at c.in-Ok.ensures in
    let size = length-ranks _ _ _ are in
    let row = tag_row c.args.salt c.args.rows.now.items c.args.tags.now.pairs c.requires.tags tag place has in
    let ranks = ap length c.deref-in-Ok.ensures.value in
    omega (arith, size, row, ranks)

pub retag-requires : goal.retag-requires
retag-requires g c =
    let a = length-tags c.args.salt c.args.rows.now.items c.args.tags.now.pairs c.requires.tags in
    let b = length-sorted c.args.rows.now.items c.requires.keys in
    let d = ap length (c.deref-in-Err.ensures.value ∙ c.sort_rows.ensures.rows) in
    omega (arith, a, b, d)

pub returns-in-Ok-clause-tags : goal.returns-in-Ok-clause-tags
returns-in-Ok-clause-tags g c =
    let are = rw c.deref.ensures.value at c.in-Ok.ensures in
    let tags = tags_renumbered c.args.rows.now.items c.in-Ok.ranks.items (sorted c.args.rows.now.items) are c.args.salt c.args.tags.now.pairs c.requires.tags in
    subst (AreTags c.args.salt (sorted c.args.rows.now.items)) (sym (c.renumber.ensures.pairs ∙ ap (λ l. renumbered l c.args.tags.now.pairs) c.deref-in-Ok.ensures.value)) tags

pub returns-in-Err-clause-spare : goal.returns-in-Err-clause-spare
returns-in-Err-clause-spare g c =
    let a = length-tags c.args.salt c.args.rows.now.items c.args.tags.now.pairs c.requires.tags in
    let b = length-sorted c.args.rows.now.items c.requires.keys in
    let d = ap length (c.deref-in-Err.ensures.value ∙ c.sort_rows.ensures.rows) in
    omega (arith, a, b, d, c.retag.ensures.spare)
