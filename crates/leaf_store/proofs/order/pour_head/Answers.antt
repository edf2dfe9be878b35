use Rattle.std.proofs.Common.{arith, ap, ◌≡◌, ◌∙◌, length, reverse, length-append}
use Rattle.std.proofs.lemmas.List.{length-reverse}
use Rattle.leaf_store.proofs.Cuts.{first_part, second_part, turned_parts}
use Rattle.leaf_store.proofs.order.pour_head.Goals as goal

pub returns-clause-stay : goal.returns-clause-stay
returns-clause-stay g c =
    let whole = turned_parts c.pour.new.from.items c.pour.new.into.items c.args.from.now.items (c.pour.ensures.moved ∙ c.reverse.ensures.items) in
    let sizes = ap length whole in
    let gone : length c.pour.new.into.items ≡ c.args.go = omega (arith, sizes, length-append c.pour.new.into.items (reverse c.pour.new.from.items), length-reverse c.pour.new.from.items, c.pour.ensures.stay, c.len.ensures, c.requires.in_range) in
    c.reverse-2.ensures.items ∙ second_part _ _ _ c.args.go whole gone

pub returns-clause-go : goal.returns-clause-go
returns-clause-go g c =
    let whole = turned_parts c.pour.new.from.items c.pour.new.into.items c.args.from.now.items (c.pour.ensures.moved ∙ c.reverse.ensures.items) in
    let sizes = ap length whole in
    let gone : length c.pour.new.into.items ≡ c.args.go = omega (arith, sizes, length-append c.pour.new.into.items (reverse c.pour.new.from.items), length-reverse c.pour.new.from.items, c.pour.ensures.stay, c.len.ensures, c.requires.in_range) in
    first_part _ _ _ c.args.go whole gone
