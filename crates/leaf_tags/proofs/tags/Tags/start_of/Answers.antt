use Rattle.std.proofs.Common.{arith, ℕ, ◌+◌, ◌-◌, ◌<◌, get_or, subst}
use Rattle.leaf_tags.specs.Tags.{IsCut, TagList}
use Rattle.leaf_tags.proofs.Cuts.{lower_from}
use Rattle.leaf_tags.proofs.tags.Tags.start_of.Goals as goal

pub returns-else-index-tag : goal.returns-else-index-tag
returns-else-index-tag c =
    let xs = c.self.inside.pairs.items in
    let low : (k : ℕ) (d : ℕ × ℕ) → k < c.down.at - 1 + 1 → (get_or xs k d).0 < c.args.tag = lower_from xs c.self.invariant.rises (c.down.at - 1) c.index.result.now c.args.tag (omega arith) c.index.ensures c.if-index-tag.false in
    subst (λ (v : TagList). IsCut v.pairs c.args.tag c.down.at) c.self.view_is (record {
      in_range = omega (arith, c.down.invariant.in_range);
      lower = λ k d lt. low k d (omega arith);
      upper = c.down.invariant.upper;
    })
