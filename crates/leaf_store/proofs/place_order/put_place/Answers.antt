use Rattle.std.proofs.Common.{◌≡◌, ◌∙◌, ◌+◌, ◌∷◌, rules, subst, sym, take}
use Rattle.std.specs.List.{insert, remove}
use Rattle.std.proofs.lemmas.List.Sorted.{IsPartitionPoint-from_clause, IsPermutation-insert, IsPermutation-remove, IsPermutation-trans}
use Rattle.leaf_store.specs.Order.{ArePlaces, HasFront, is_earlier}
use Rattle.leaf_store.proofs.Fronts.{front_put, front_searched}
use Rattle.leaf_store.proofs.Listing.{places_moved}
use Rattle.leaf_store.proofs.place_order.put_place.Goals as goal

pub returns-clause-places : goal.returns-clause-places
returns-clause-places g c =
    let order = c.args.order.now.items in
    let place = c.remove-place.result in
    let i = c.args.i in
    let at = c.partition_point-at.result in
    let new : c.insert.new.self.items ≡ insert (remove order i) at place = search rules in
    subst ArePlaces (sym new) (places_moved order (insert (remove order i) at place) (IsPermutation-trans order (place ∷ remove order i) (insert (remove order i) at place) (IsPermutation-remove order i place c.requires.in_range c.remove-place.ensures.value) (IsPermutation-insert (remove order i) at place)) c.requires.places)

pub returns-clause-front : goal.returns-clause-front
returns-clause-front g c =
    let rows = c.args.rows.now in
    let order = c.args.order.now.items in
    let place = c.remove-place.result in
    let i = c.args.i in
    let at = c.partition_point-at.result in
    let new : c.insert.new.self.items ≡ insert (remove order i) at place = search rules in
    let all = c.deref.ensures.value ∙ c.remove-place.ensures.items in
    let cut = IsPartitionPoint-from_clause (λ p. is_earlier rows p place) (take i (remove order i)) at (rw all at c.partition_point-at.ensures.partitioned) (front_searched rows order i c.requires.in_range c.requires.front place c.remove-place.ensures.value) (λ a r f called. search rules) in
    subst (λ xs. HasFront rows xs (i + 1)) (sym new) (front_put rows order i c.requires.in_range c.requires.front place c.remove-place.ensures.value at (rw all at c.partition_point-at.ensures.bound) cut)
