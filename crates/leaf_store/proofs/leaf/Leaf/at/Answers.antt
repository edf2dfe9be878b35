use Rattle.std.proofs.Common.{arith, ◌≡◌, ◌<◌, length, get_or, sym, ap, ◌∙◌}
use Rattle.std.proofs.lemmas.List.{get_or_default}
use Rattle.leaf_store.proofs.Unsorted.{length-sorted}
use Rattle.leaf_store.proofs.Listing.{place_below, place_row}
use Rattle.leaf_store.proofs.Settled.{seen_at, seen_room, seen_ordered}
use Rattle.leaf_store.proofs.leaf.Leaf.at.Goals as goal

pub index-row-requires : goal.index-row-requires
index-row-requires g c =
    let rows = c.self.inside.rows.items in
    let lt = seen_room _ _ c.self.view_is c.args.i c.requires.in_range in
    let e = length-sorted rows c.self.invariant.0.keys in
    let below = place_below rows c.self.invariant.0.keys c.self.inside.order.items c.self.invariant.0.places (c.self.invariant.0.known (seen_ordered _ _ c.self.view_is c.requires.ordered)) c.args.i (omega (arith, lt, e)) in
    let place = c.place_at.ensures ∙ ap (λ xs. get_or xs c.args.i c.args.i) c.deref.ensures.value in
    omega (arith, below, place)

pub returns : goal.returns
returns g c = λ d.
    let rows = c.self.inside.rows.items in
    let order = c.self.inside.order.items in
    let lt = seen_room _ _ c.self.view_is c.args.i c.requires.in_range in
    let e = length-sorted rows c.self.invariant.0.keys in
    let known = c.self.invariant.0.known (seen_ordered _ _ c.self.view_is c.requires.ordered) in
    let in_range : c.args.i < length rows = omega (arith, lt, e) in
    let below = place_below rows c.self.invariant.0.keys order c.self.invariant.0.places known c.args.i in_range in
    let place : get_or order c.args.i c.args.i ≡ c.place_at.result = sym (c.place_at.ensures ∙ ap (λ xs. get_or xs c.args.i c.args.i) c.deref.ensures.value) in
    seen_at _ _ c.self.view_is c.args.i d _ (place_row rows c.self.invariant.0.keys order c.self.invariant.0.places known c.args.i in_range d
    ∙ (ap (λ p. get_or rows p d) place ∙ (get_or_default rows c.place_at.result d c.index-row.result.now (omega (arith, below, place)) ∙ sym c.index-row.ensures)))
