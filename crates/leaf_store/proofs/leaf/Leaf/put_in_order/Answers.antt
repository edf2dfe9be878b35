use Rattle.std.proofs.Common.{arith, rules, ◌≡◌, length, subst, sym}
use Rattle.leaf_store.proofs.Settled.{seen_map, seen_spare}
use Rattle.leaf_store.specs.Order.{HasFront}
use Rattle.leaf_store.proofs.Fronts.{front_known}
use Rattle.leaf_store.proofs.leaf.Leaf.put_in_order.Goals as goal

pub invariant_of-self : goal.invariant_of-self
invariant_of-self g c =
    let size : c.len-self-inside.result ≡ length c.order_leaf.new.order.items = search rules in (
      record {
        keys = c.order_leaf.ensures.keys;
        tags = c.order_leaf.ensures.tags;
        places = c.order_leaf.ensures.places;
        few = c.order_leaf.ensures.few;
        known = λ _. c.order_leaf.ensures.known;
      },
      subst (HasFront c.order_leaf.new.rows.items c.order_leaf.new.order.items) (sym size) (front_known c.order_leaf.new.rows.items c.order_leaf.new.order.items c.order_leaf.ensures.known),
    )

pub returns-then-not-self-clause-map : goal.returns-then-not-self-clause-map
returns-then-not-self-clause-map g c = seen_map _ _ c.self.view_is _ c.order_leaf.ensures.map

pub returns-then-not-self-clause-spare : goal.returns-then-not-self-clause-spare
returns-then-not-self-clause-spare g c =
    let v = seen_spare _ _ c.self.view_is in
    omega (arith, v, c.order_leaf.ensures.count, c.order_leaf.ensures.capacity, c.order_leaf.ensures.spare)
