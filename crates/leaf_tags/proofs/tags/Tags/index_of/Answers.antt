use Rattle.std.proofs.Common.{arith, ◌≡◌, ℕ, ◌<◌, ◌≤◌, length, get_or, subst, sym, ◌∙◌}
use Rattle.leaf_tags.specs.Tags.{TagList}
use Rattle.leaf_tags.proofs.Cuts.{found_pair}
use Rattle.leaf_tags.proofs.tags.Tags.index_of.Goals as goal

pub returns-clause-pair : goal.returns-clause-pair
returns-clause-pair c =
    let xs = c.self.inside.pairs.items in
    let f = c.seek.invariant.from in
    let in_range : c.seek.at < length xs = let a = f.1 in let b = f.2 in omega arith in
    let upper : c.args.tag ≤ c.index.result.now.0 = subst (λ (p : ℕ × ℕ). c.args.tag ≤ p.0) (sym c.index.ensures) (c.seek.invariant.upper c.seek.at c.index.result.now (omega arith) in_range) in
    λ d. subst (λ (v : TagList). get_or v.pairs c.seek.at d ≡ (c.args.tag, c.args.place)) c.self.view_is
    (found_pair xs c.self.invariant.rises c.seek.at c.index.result.now c.args.tag c.args.place c.index.ensures (sym c.from.ensures ∙ c.seek-test.false) upper f.0 f.1 f.2 f.3 d)
