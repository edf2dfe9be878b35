use Rattle.std.proofs.Common.{rules, ◌≡◌, ℕ, ◌<◌, ◌≢◌, length, get_or, subst, sym, ap, ◌∙◌, arith, get_or-set_other}
use Rattle.std.specs.List.{Contains}
use Rattle.leaf_tags.specs.Tags.{TagList, IsTagList, renumbered}
use Rattle.leaf_tags.proofs.Places.{place_below, renumbered_keeps, renumbered_more, renumbered_pairs, written_over}
use Rattle.leaf_tags.proofs.tags.Tags.renumber.Goals as goal

pub bounds-places-from : goal.bounds-places-from
bounds-places-from c =
    let xs = c.deref_mut-pair-items.result.now in
    let i = c.loop-pair.pair-index in
    let count = length c.args.places.now in
    let same : c.args.self.now.pairs ≡ xs = ap (λ (v : TagList). v.pairs) (sym c.self.view_is) ∙ sym c.deref_mut-pair-items.ensures.value in
    let below : (get_or xs i (0, 0)).1 < count = place_below xs count (subst (λ ps. (tag place : ℕ) → Contains ps (tag, place) → place < count) same c.requires) i (0, 0) c.loop-pair-test.true in
    let read : (get_or c.loop-pair.pair-items i (0, 0)).1 < count = subst (λ (p : ℕ × ℕ). p.1 < count) (sym (c.loop-pair.invariant.left i (0, 0) (omega arith))) below in
    omega (arith, read, c.from.ensures)

pub loop-pair-preserved : goal.loop-pair-preserved
loop-pair-preserved c =
    let i = c.loop-pair.pair-index in
    let in_range : i < length c.loop-pair.pair-items = omega (arith, c.loop-pair.auto.pair-items, c.loop-pair-test.true) in
    record {
      passed = renumbered_more c.args.places.now c.deref_mut-pair-items.result.now c.loop-pair.pair-items i c.from.result c.loop-pair-test.true in_range c.from.ensures (λ d. c.loop-pair.invariant.left i d (omega arith)) c.loop-pair.invariant.passed;
      left = λ k d le. let ne : k ≢ i = omega arith in rw get_or-set_other (c.loop-pair.invariant.left k d (omega arith));
    }

pub invariant_of-self : goal.invariant_of-self
invariant_of-self c =
    let xs = c.deref_mut-pair-items.result.now in
    let ys = c.loop-pair.pair-items in
    let whole = written_over c.self.inside.pairs.items ys c.self.inside.pairs.len (search rules) (search rules) in
    let each = renumbered_pairs c.args.places.now xs ys c.loop-pair.auto.pair-items (λ k d lt. c.loop-pair.invariant.passed k d (omega (arith, c.loop-pair-test.false))) in
    subst IsTagList (sym (whole ∙ each)) (renumbered_keeps c.args.places.now xs (subst IsTagList (sym c.deref_mut-pair-items.ensures.value) c.self.invariant))

pub returns-clause-pairs : goal.returns-clause-pairs
returns-clause-pairs c =
    let xs = c.deref_mut-pair-items.result.now in
    let ys = c.loop-pair.pair-items in
    let same : xs ≡ c.args.self.now.pairs = c.deref_mut-pair-items.ensures.value ∙ ap (λ (v : TagList). v.pairs) c.self.view_is in
    let whole = written_over c.self.inside.pairs.items ys c.self.inside.pairs.len (search rules) (search rules) in
    let each = renumbered_pairs c.args.places.now xs ys c.loop-pair.auto.pair-items (λ k d lt. c.loop-pair.invariant.passed k d (omega (arith, c.loop-pair-test.false))) in
    whole ∙ (each ∙ ap (renumbered c.args.places.now) same)
