use Rattle.std.proofs.Common.{◌≡◌, Some, sym, ap, ◌∙◌, arith}
use Rattle.map_model.specs.Calls.{Put}
use Rattle.map_model.specs.Ordered.{was_put}
use Rattle.map_model.specs.History.{after}
use Rattle.lane_stores.specs.declared.view.View.{View}
use Rattle.lane_stores.specs.Calls.{map_in}
use Rattle.lane_stores.proofs.Entering.{called, map_taken, goes_put}
use Rattle.lane_stores.proofs.lane.SharedLaneOrdered.put.Goals as goal

pub returns-then-found-ne0-clause-counted : goal.returns-then-found-ne0-clause-counted
returns-then-found-ne0-clause-counted c = c.refuse.ensures.counted

pub invariant_of-self-in-Ok : goal.invariant_of-self-in-Ok
invariant_of-self-in-Ok c =
    let s = c.args.self.now in
    let took = c.take-found.ensures.free (omega (arith, c.if-found-ne0.false)) in
    let same = c.set.ensures.of.1 in
    let before : map_in c.take-found.new.seat.me.1 ≡ after c.set.new.seat.me.0.seen = map_taken _ _ took ∙ ap (λ (v : View). after v.seen) (sym same) in
    let k = called _ _ _ _ _ _ (Some (Put c.args.key.now c.args.value.now, was_put c.in-Ok.new)) s.idle took same c.set.ensures.out (goes_put _ _ c.set.new.seat.me.0.seen _ _ _ before c.in-Ok.ensures.map c.in-Ok.ensures.new c.in-Ok.ensures.old) c.give.ensures.unlocked in
    record {
      of = c.give.ensures.of ∙ (c.set.ensures.of.0 ∙ (c.take-found.ensures.of ∙ s.of));
      idle = k.idle;
      alone_is = k.sole ∙ s.alone_is;
      next_is = k.next ∙ s.next_is;
      room_is = k.room ∙ s.room_is;
      above = s.above;
      within = s.within;
    }
