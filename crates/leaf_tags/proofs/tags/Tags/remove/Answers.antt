use Rattle.std.proofs.Common.{ℕ, ◌<◌, ◌∷◌, length, subst, sym, ap, ◌∙◌}
use Rattle.std.specs.List.{remove}
use Rattle.std.specs.List.Sorted.{IsPermutation}
use Rattle.std.proofs.lemmas.List.Sorted.{IsPermutation-remove}
use Rattle.leaf_tags.specs.Tags.{TagList, IsTagList}
use Rattle.leaf_tags.proofs.Cuts.{remove_keeps}
use Rattle.leaf_tags.proofs.tags.Tags.remove.Goals as goal

pub invariant_of-self : goal.invariant_of-self
invariant_of-self c = subst IsTagList (sym c.remove.ensures.items) (remove_keeps c.self.inside.pairs.items c.self.invariant c.index_of-at.result (subst (λ (v : TagList). c.index_of-at.result < length v.pairs) (sym c.self.view_is) c.index_of-at.ensures.in_range))

pub returns-clause-pairs : goal.returns-clause-pairs
returns-clause-pairs c =
    let pair : ℕ × ℕ = (c.args.tag, c.args.place) in
    let old = c.args.self.now.pairs in
    subst (λ ys. IsPermutation old (pair ∷ ys)) (ap (λ (v : TagList). remove v.pairs c.index_of-at.result) (sym c.self.view_is) ∙ sym c.remove.ensures.items)
    (IsPermutation-remove old c.index_of-at.result pair c.index_of-at.ensures.in_range (sym (c.index_of-at.ensures.pair pair)))
