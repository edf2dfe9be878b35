use Rattle.std.proofs.Common.{arith, sym, subst, ap, ◌∙◌, get_or, [], ◌∷◌, List, ℕ}
use Rattle.std.proofs.lemmas.List.{get_or_append_left}
use Rattle.leaf_store.specs.Order.{ArePlaces}
use Rattle.leaf_store.proofs.Listing.{more_places}
use Rattle.leaf_store.proofs.place_order.list_places.Goals as goal

pub loop-place-preserved : goal.loop-place-preserved
loop-place-preserved c =
    let size = c.loop-place.invariant.size in
    let room = c.loop-place.invariant.room in
    let listed = c.loop-place.invariant.listed in
    let long = c.loop-place.invariant.long in
    record {
      listed = λ k d lt. ap (λ (xs : List ℕ). get_or xs k d) c.push_reserved.ensures.items ∙ (get_or_append_left c.loop-place.order.items (c.loop-place.place ∷ []) d k (omega (arith, lt, long)) ∙ listed k d lt);
      long = omega (arith, long, c.push_reserved.ensures.len);
      places = subst ArePlaces (sym c.push_reserved.ensures.items) (more_places c.loop-place.order.items c.loop-place.place c.loop-place.invariant.places size);
      size = omega (arith, size, c.push_reserved.ensures.len);
      room = omega (arith, room, c.push_reserved.ensures.len, c.push_reserved.ensures.capacity);
    }
