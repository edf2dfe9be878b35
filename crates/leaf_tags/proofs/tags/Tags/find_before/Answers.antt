use Rattle.std.proofs.Common.{arith, ◌≡◌, ◌-◌, ◌≤◌, length, get_or, subst, sym, inl, inr}
use Rattle.std.proofs.lemmas.Bool.{cases_lt}
use Rattle.leaf_tags.specs.Tags.{TagList}
use Rattle.leaf_tags.proofs.Cuts.{none_before}
use Rattle.leaf_tags.proofs.tags.Tags.find_before.Goals as goal

pub returns-else-index-tag : goal.returns-else-index-tag
returns-else-index-tag g c = λ k place d before is.
    let xs = c.self.inside.pairs.items in
    let here : get_or xs k d ≡ (c.args.tag, place) = subst (λ (v : TagList). get_or v.pairs k d ≡ (c.args.tag, place)) (sym c.self.view_is) is in
    let size : c.args.start ≤ length xs = subst (λ (v : TagList). c.args.start ≤ length v.pairs) (sym c.self.view_is) c.requires.in_range in
    let until = c.back.invariant.until in
    elim (cases_lt k c.back.at) [
      | inl lower ↦ absurd (none_before xs c.self.invariant.rises (c.back.at - 1) c.index.result.now c.args.tag place (omega (arith, c.back-test.true)) c.index.ensures (omega (arith, c.if-index-tag.false)) k d (omega arith) here)
      | inr from ↦ c.back.invariant.passed k place d from before here
    ]
