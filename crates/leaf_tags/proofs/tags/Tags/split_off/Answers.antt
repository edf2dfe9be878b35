use Rattle.std.proofs.Common.{arith, ◌≡◌, ◌<◌, length, take, false, nat_lt, sym, ap, ◌∙◌, subst}
use Rattle.std.proofs.lemmas.Bool.{le-ltb}
use Rattle.std.proofs.lemmas.List.{take_all}
use Rattle.leaf_tags.specs.Tags.{TagList, IsTagList, places_from}
use Rattle.leaf_tags.proofs.Parts.{from_keeps, from_room}
use Rattle.leaf_tags.proofs.tags.Tags.split_off.Goals as goal

pub push_reserved-requires : goal.push_reserved-requires
push_reserved-requires c =
    let xs = c.self.inside.pairs.items in
    let in_range : c.loop-at.at < length xs = omega (arith, c.len-at-end.ensures, c.loop-at-test.true) in
    let from : nat_lt c.index.result.now.1 c.args.count ≡ false = le-ltb c.index.result.now.1 c.args.count (omega (arith, c.from.ensures, c.if-from-count.true)) in
    let one = from_room c.args.count xs c.loop-at.at c.index.result.now in_range c.index.ensures from in
    let all = ap (λ (v : TagList). length (places_from c.args.count v.pairs)) c.self.view_is in
    let spare = ap (λ (v : TagList). v.spare) c.right.view_is in
    let size = ap length c.loop-at.invariant.moved in
    omega (arith, one, all, spare, size, c.loop-at.invariant.capacity, c.requires.room)

pub invariant_of-right : goal.invariant_of-right
invariant_of-right c =
    let xs = c.self.inside.pairs.items in
    let whole : take c.loop-at.at xs ≡ xs = take_all c.loop-at.at xs (omega (arith, c.len-at-end.ensures, c.loop-at-test.false)) in
    subst IsTagList (sym (c.loop-at.invariant.moved ∙ ap (places_from c.args.count) whole)) (from_keeps c.args.count xs c.self.invariant)
