use Rattle.std.proofs.Common.{◌≡◌, Some, sym, ap, ◌∙◌, subst, arith}
use Rattle.atomic_table.specs.Table.{Me}
use Rattle.map_model.specs.Calls.{Part, Pairs}
use Rattle.map_model.specs.History.{after}
use Rattle.map_model.specs.Maps.{between}
use Rattle.lane_stores.specs.declared.view.View.{View}
use Rattle.lane_stores.specs.Rule.{Map}
use Rattle.lane_stores.specs.Calls.{IsOut, map_in}
use Rattle.lane_stores.proofs.Entering.{called, out_after, map_taken, goes_left}
use Rattle.lane_stores.proofs.lane.SharedLaneOrdered.part.Goals as goal

pub returns-then-found-ne0-clause-counted : goal.returns-then-found-ne0-clause-counted
returns-then-found-ne0-clause-counted c = c.refuse.ensures.counted

pub invariant_of-self-in-Ok : goal.invariant_of-self-in-Ok
invariant_of-self-in-Ok c =
    let s = c.args.self.now in
    let took = c.take-found.ensures.free (omega (arith, c.if-found-ne0.false)) in
    let out = subst (IsOut s.map.now.lanes s.number) (sym c.first_pairs.ensures.same.1) (out_after _ _ _ _ s.idle took) in
    let same = ap (λ (k : Me Map View). k.0) c.first_pairs.ensures.same.1 in
    let map : map_in c.first_pairs.new.seat.me.1 ≡ after c.first_pairs.new.seat.me.0.seen = ap (λ (k : Me Map View). map_in k.1) c.first_pairs.ensures.same.1 ∙ (map_taken _ _ took ∙ ap (λ (k : Me Map View). after k.0.seen) (sym c.first_pairs.ensures.same.1)) in
    let k = called _ _ _ _ _ _ (Some (Part c.args.from.now c.in-Ok.upto, Pairs c.first_pairs.new.page.pairs)) s.idle took same out (goes_left _ c.first_pairs.new.seat.me.0.seen _ _ _ map (c.in-Ok.ensures.pairs ∙ ap (λ (k : Me Map View). between (map_in k.1) c.args.from.now c.in-Ok.upto) (sym c.first_pairs.ensures.same.1))) c.give.ensures.unlocked in
    record {
      of = c.give.ensures.of ∙ (c.first_pairs.ensures.same.0 ∙ (c.take-found.ensures.of ∙ s.of));
      idle = k.idle;
      alone_is = k.sole ∙ s.alone_is;
      next_is = k.next ∙ s.next_is;
      room_is = k.room ∙ s.room_is;
      above = s.above;
      within = s.within;
    }
