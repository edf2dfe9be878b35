use Rattle.std.proofs.Common.{arith, ℕ, ◌≤◌, ◌<◌, length, get_or, subst}
use Rattle.leaf_tags.specs.Tags.{TagList}
use Rattle.leaf_tags.proofs.Cuts.{upper_from}
use Rattle.leaf_tags.proofs.tags.Tags.past_lower.Goals as goal

pub returns-else-index-tag-clause-upper : goal.returns-else-index-tag-clause-upper
returns-else-index-tag-clause-upper c =
    subst (λ (v : TagList). (k : ℕ) (d : ℕ × ℕ) → c.up.at ≤ k → k < length v.pairs → c.args.tag ≤ (get_or v.pairs k d).0) c.self.view_is
    (upper_from c.self.inside.pairs.items c.self.invariant.rises c.up.at c.index.result.now c.args.tag c.index.ensures (omega (arith, c.if-index-tag.false)))
