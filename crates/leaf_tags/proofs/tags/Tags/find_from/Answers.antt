use Rattle.std.proofs.Common.{arith, ◌≡◌, ◌<◌, length, get_or, subst, sym, inl, inr}
use Rattle.std.proofs.lemmas.Bool.{cases_lt}
use Rattle.leaf_tags.specs.Tags.{TagList}
use Rattle.leaf_tags.proofs.Cuts.{none_after}
use Rattle.leaf_tags.proofs.tags.Tags.find_from.Goals as goal

pub returns-else-index-tag-clause-found : goal.returns-else-index-tag-clause-found
returns-else-index-tag-clause-found g c = λ k place d from lt is.
    let xs = c.self.inside.pairs.items in
    let here : get_or xs k d ≡ (c.args.tag, place) = subst (λ (v : TagList). get_or v.pairs k d ≡ (c.args.tag, place)) (sym c.self.view_is) is in
    let in_range : k < length xs = subst (λ (v : TagList). k < length v.pairs) (sym c.self.view_is) lt in
    elim (cases_lt k c.onward.at) [
      | inl before ↦ c.onward.invariant.passed k place d from before in_range here
      | inr after ↦ absurd (none_after xs c.self.invariant.rises c.onward.at c.index.result.now c.args.tag place c.index.ensures (omega (arith, c.if-index-tag.false)) k d after in_range here)
    ]
