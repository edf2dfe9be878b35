use Rattle.std.proofs.Common.{◌≡◌, Some, sym, ◌∙◌}
use Rattle.anchor_rules.specs.Places.{place_in}
use Rattle.anchor_rules.proofs.Found.{adjacent_found}
use Rattle.anchor_rules.proofs.anchors.comes_next.Goals as goal

pub returns-in-Some : goal.returns-in-Some
returns-in-Some c =
    let found : place_in c.args.rows.now c.args.left ≡ Some c.in-Some.i = sym c.place_of.ensures.place ∙ c.in-Some.is in
    c.has_next.ensures ∙ sym (adjacent_found c.args.rows.now c.args.left c.args.right c.in-Some.i c.requires found)
