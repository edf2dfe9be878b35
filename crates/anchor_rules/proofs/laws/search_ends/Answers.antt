use Rattle.std.proofs.Common.{ap, ◌∙◌, cond}
use Rattle.anchor_rules.specs.Items.{leaf_before}
use Rattle.anchor_rules.proofs.Searching.{ends_whole, ends_above, ends_below, ends_childless}
use Rattle.anchor_rules.proofs.laws.search_ends.Goals as goal

pub returns-clause-childless : goal.returns-clause-childless
returns-clause-childless c A key n it are longest anchor none = ends_childless A key n it are longest anchor none

pub returns-clause-whole : goal.returns-clause-whole
returns-clause-whole c A key n it are longest e = ends_whole A key n it are longest e

pub returns-clause-child_below : goal.returns-clause-child_below
returns-clause-child_below c A key n it byte rest d are longest e some = ends_below A key n it are longest byte rest d e some

pub returns-clause-anchor : goal.returns-clause-anchor
returns-clause-anchor c A key n it byte rest are longest e none anchor = ends_above A key n it are longest byte rest e none ∙ ap (λ b. cond b it.leftmost (leaf_before A it.leftmost)) anchor

pub returns-clause-before : goal.returns-clause-before
returns-clause-before c A key n it byte rest are longest e none no_anchor = ends_above A key n it are longest byte rest e none ∙ ap (λ b. cond b it.leftmost (leaf_before A it.leftmost)) no_anchor
