use Rattle.std.proofs.Common.{rules, ◌≡◌, ◌∙◌}
use Rattle.std.specs.Ordering.{is_lt}
use Rattle.std.proofs.lemmas.Cmp.{nat_list_cmp_total}
use Rattle.std.proofs.lemmas.List.Sorted.{ranks_by, length_permutation}
use Rattle.std.proofs.lemmas.Fn.{always_returns_same}
use Rattle.map_model.specs.Halves.{key_at}
use Rattle.leaf_store.specs.Order.{is_earlier}
use Rattle.leaf_store.proofs.Listing.{places_moved}
use Rattle.leaf_store.proofs.place_order.order_places.Goals as goal

pub returns-clause-places : goal.returns-clause-places
returns-clause-places g c = places_moved _ _ c.sort_by.ensures.permutation c.list_places.ensures.places

pub returns-clause-lists : goal.returns-clause-lists
returns-clause-lists g c = (
  length_permutation _ _ c.sort_by.ensures.permutation ∙ c.in_ok-list_places.ensures.all,
  c.in_ok-sort_by.ensures.sorted (is_earlier c.args.rows.now) (ranks_by nat_list_cmp_total (key_at c.args.rows.now)) (always_returns_same _ (λ a r. is_lt r ≡ is_earlier c.args.rows.now a.0.now a.1.0.now) _ (λ a r f called. search rules)),
)
