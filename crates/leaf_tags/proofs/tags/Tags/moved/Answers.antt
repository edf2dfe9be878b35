use Rattle.std.proofs.Common.{ℕ, ◌∷◌, set, subst, sym}
use Rattle.std.specs.List.Sorted.{IsPermutation}
use Rattle.leaf_tags.specs.Tags.{TagList}
use Rattle.leaf_tags.proofs.Cuts.{exchanged}
use Rattle.leaf_tags.proofs.tags.Tags.moved.Goals as goal

pub returns-clause-pairs : goal.returns-clause-pairs
returns-clause-pairs c =
    let before : ℕ × ℕ = (c.args.tag, c.args.before) in
    let after : ℕ × ℕ = (c.args.tag, c.args.after) in
    let i = c.index_of-at.result in
    subst (λ (v : TagList). IsPermutation (after ∷ c.args.self.now.pairs) (before ∷ set v.pairs i after)) (sym c.self.view_is)
    (exchanged c.args.self.now.pairs i before after c.index_of-at.ensures.in_range (c.index_of-at.ensures.pair before))
