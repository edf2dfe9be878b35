use Rattle.std.proofs.Common.{rules, ◌≡◌, ℕ, ◌∷◌, subst, sym, ap, ◌∙◌}
use Rattle.std.specs.List.{insert}
use Rattle.std.specs.List.Sorted.{IsPermutation}
use Rattle.std.proofs.lemmas.List.Sorted.{IsPermutation-insert}
use Rattle.leaf_tags.specs.Tags.{TagList}
use Rattle.leaf_tags.proofs.tags.Tags.add.Goals as goal

pub returns-clause-pairs : goal.returns-clause-pairs
returns-clause-pairs c =
    let pair : ℕ × ℕ = (c.args.tag, c.args.place) in
    let old = c.args.self.now.pairs in
    let same : c.self.inside.pairs.items ≡ old = ap (λ (v : TagList). v.pairs) c.self.view_is in
    let now : c.insert.new.self.items ≡ insert c.self.inside.pairs.items c.start_of-at.result pair = search rules in
    subst (λ ys. IsPermutation (pair ∷ old) ys) (sym (now ∙ ap (λ xs. insert xs c.start_of-at.result pair) same)) (IsPermutation-insert old c.start_of-at.result pair)
