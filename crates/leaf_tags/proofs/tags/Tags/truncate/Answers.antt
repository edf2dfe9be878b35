use Rattle.std.proofs.Common.{rules, ℕ, ap, ◌∙◌, subst, sym, nat_lt}
use Rattle.std.proofs.lemmas.Fn.{filter_same}
use Rattle.leaf_tags.specs.Tags.{TagList, IsTagList, places_below}
use Rattle.leaf_tags.proofs.Parts.{below_keeps}
use Rattle.leaf_tags.proofs.tags.Tags.truncate.Goals as goal

pub invariant_of-self : goal.invariant_of-self
invariant_of-self c =
    let kept = filter_same _ (λ (p : ℕ × ℕ). nat_lt p.1 c.args.count) _ (λ x b g called. search rules) _ _ c.retain.ensures.filtered in
    subst IsTagList (sym kept) (below_keeps c.args.count c.self.inside.pairs.items c.self.invariant)

pub returns-clause-pairs : goal.returns-clause-pairs
returns-clause-pairs c =
    let kept = filter_same _ (λ (p : ℕ × ℕ). nat_lt p.1 c.args.count) _ (λ x b g called. search rules) _ _ c.retain.ensures.filtered in
    kept ∙ ap (λ (v : TagList). places_below c.args.count v.pairs) c.self.view_is
