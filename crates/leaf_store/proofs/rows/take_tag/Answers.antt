use Rattle.std.proofs.Common.{arith, ◌≡◌, ◌<◌, ◌-◌, ◌∷◌, length, get_or, sym, ap, ◌∙◌, subst}
use Rattle.std.specs.List.{Contains}
use Rattle.std.specs.List.Sorted.{IsPermutation}
use Rattle.leaf_store.specs.Tag.{tag_of}
use Rattle.leaf_store.proofs.Settled.{length-tags}
use Rattle.leaf_store.proofs.Tagged.{tag_there}
use Rattle.leaf_store.proofs.Taken.{last_taken, last_there, other_taken, tag_at}
use Rattle.leaf_store.proofs.rows.take_tag.Goals as goal

pub overflow_sub-last : goal.overflow_sub-last
overflow_sub-last g c = omega (arith, length-tags c.args.salt c.args.rows.now c.args.tags.now.pairs c.requires.tags, c.requires.in_range, c.len-last.ensures.len)

pub remove-requires : goal.remove-requires
remove-requires g c = tag_there c.args.salt c.args.rows.now c.args.tags.now.pairs c.requires.tags c.args.tag c.args.place c.requires.in_range c.requires.tag

pub offset_bounds-rows-last : goal.offset_bounds-rows-last
offset_bounds-rows-last g c = omega (arith, length-tags c.args.salt c.args.rows.now c.args.tags.now.pairs c.requires.tags, c.requires.in_range, c.len-last.ensures.len)

pub bounds-rows-last : goal.bounds-rows-last
bounds-rows-last g c = omega (arith, length-tags c.args.salt c.args.rows.now c.args.tags.now.pairs c.requires.tags, c.requires.in_range, c.len-last.ensures.len)

pub moved-requires-clause-fits : goal.moved-requires-clause-fits
moved-requires-clause-fits g c = omega (arith, length-tags c.args.salt c.args.rows.now c.args.tags.now.pairs c.requires.tags, c.requires.in_range, c.len-last.ensures.len, c.len-last.ensures.few)

pub moved-requires-clause-there : goal.moved-requires-clause-there
moved-requires-clause-there g c =
    let d = c.index-rows-last.result in
    let last : c.len-last.result - 1 ≡ length c.args.rows.now - 1 = omega (arith, length-tags c.args.salt c.args.rows.now c.args.tags.now.pairs c.requires.tags, c.len-last.ensures.len) in
    let gone = subst (λ t. IsPermutation c.args.tags.now.pairs ((t, c.args.place) ∷ c.remove.new.self.pairs)) (c.requires.tag d) c.remove.ensures.pairs in
    let tag = c.tag_of.ensures ∙ ap (λ k. tag_of c.args.salt (get_or c.args.rows.now k d).0) last in
    subst (λ k. Contains c.remove.new.self.pairs (c.tag_of.result, k)) (sym last)
    (subst (λ t. Contains c.remove.new.self.pairs (t, length c.args.rows.now - 1)) (sym tag)
    (last_there c.args.salt c.args.rows.now c.args.place c.requires.in_range d c.args.tags.now.pairs c.remove.new.self.pairs c.requires.tags gone (let below = c.if-place-last.true in omega (arith, last, below))))

pub returns-then-place-last-clause-tags : goal.returns-then-place-last-clause-tags
returns-then-place-last-clause-tags g c = λ d.
    let last : c.len-last.result - 1 ≡ length c.args.rows.now - 1 = omega (arith, length-tags c.args.salt c.args.rows.now c.args.tags.now.pairs c.requires.tags, c.len-last.ensures.len) in
    let gone = subst (λ t. IsPermutation c.args.tags.now.pairs ((t, c.args.place) ∷ c.remove.new.self.pairs)) (c.requires.tag d) c.remove.ensures.pairs in
    let below : length c.args.rows.now - 1 < length c.args.rows.now = let h = c.requires.in_range in omega arith in
    let tag = c.tag_of.ensures ∙ ap (λ k. tag_of c.args.salt (get_or c.args.rows.now k c.index-rows-last.result).0) last in
    let moved = subst (λ k. IsPermutation ((c.tag_of.result, c.args.place) ∷ c.remove.new.self.pairs) ((c.tag_of.result, k) ∷ c.moved.new.self.pairs)) last c.moved.ensures.pairs in
    let there = subst (λ t. IsPermutation ((t, c.args.place) ∷ c.remove.new.self.pairs) ((t, length c.args.rows.now - 1) ∷ c.moved.new.self.pairs)) (tag_at c.args.salt c.args.rows.now (length c.args.rows.now - 1) c.tag_of.result c.index-rows-last.result d below tag) moved in
    other_taken c.args.salt c.args.rows.now c.args.place c.requires.in_range d c.args.tags.now.pairs c.remove.new.self.pairs c.requires.tags gone c.moved.new.self.pairs there

pub returns-else-place-last-clause-tags : goal.returns-else-place-last-clause-tags
returns-else-place-last-clause-tags g c = λ d.
    let size = length-tags c.args.salt c.args.rows.now c.args.tags.now.pairs c.requires.tags in
    let gone = subst (λ t. IsPermutation c.args.tags.now.pairs ((t, c.args.place) ∷ c.remove.new.self.pairs)) (c.requires.tag d) c.remove.ensures.pairs in
    last_taken c.args.salt c.args.rows.now c.args.place c.requires.in_range d c.args.tags.now.pairs c.remove.new.self.pairs c.requires.tags gone (let h = c.requires.in_range in omega (arith, size, c.len-last.ensures.len))
