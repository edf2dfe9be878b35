use Rattle.std.proofs.Common.{◌≡◌, Some, None, [], sym, ap, ◌∙◌, subst, arith}
use Rattle.std.specs.Bool.{OnTrue, OnFalse}
use Rattle.atomic_table.specs.Table.{Me}
use Rattle.map_model.specs.Calls.{Get}
use Rattle.map_model.specs.Ordered.{got}
use Rattle.map_model.specs.History.{after}
use Rattle.map_model.specs.Maps.{find}
use Rattle.lane_stores.specs.declared.view.View.{View}
use Rattle.lane_stores.specs.Rule.{Map}
use Rattle.lane_stores.specs.Calls.{IsOut, map_in}
use Rattle.lane_stores.proofs.Entering.{called, out_after, map_taken, goes_got}
use Rattle.lane_stores.proofs.lane.SharedLaneOrdered.get.Goals as goal

pub returns-then-found-ne0-clause-counted : goal.returns-then-found-ne0-clause-counted
returns-then-found-ne0-clause-counted c = c.refuse.ensures.counted

pub invariant_of-self-in-Ok : goal.invariant_of-self-in-Ok
invariant_of-self-in-Ok c =
    let s = c.args.self.now in
    let took = c.take-found.ensures.free (omega (arith, c.if-found-ne0.false)) in
    let out = subst (IsOut s.map.now.lanes s.number) (sym c.look.ensures.same.1) (out_after _ _ _ _ s.idle took) in
    let same = ap (λ (k : Me Map View). k.0) c.look.ensures.same.1 in
    let map : map_in c.look.new.seat.me.1 ≡ after c.look.new.seat.me.0.seen = ap (λ (k : Me Map View). map_in k.1) c.look.ensures.same.1 ∙ (map_taken _ _ took ∙ ap (λ (k : Me Map View). after k.0.seen) (sym c.look.ensures.same.1)) in
    let k = called _ _ _ _ _ _ (Some (Get c.args.key.now, got c.in-Ok.here c.deref.result.now)) s.idle took same out (goes_got _ c.look.new.seat.me.0.seen _ _ _ map
    (subst (λ (l : Map). OnTrue c.in-Ok.here (find l c.args.key.now ≡ Some c.deref.result.now)) (ap (λ (k : Me Map View). map_in k.1) (sym c.look.ensures.same.1)) (subst (λ v. OnTrue c.in-Ok.here (find (map_in c.take-found.new.seat.me.1) c.args.key.now ≡ Some v)) (sym c.deref.ensures.value) c.in-Ok.ensures.found))
    (subst (λ (l : Map). OnFalse c.in-Ok.here ((find l c.args.key.now ≡ None) × (c.deref.result.now ≡ []))) (ap (λ (k : Me Map View). map_in k.1) (sym c.look.ensures.same.1)) (subst (λ v. OnFalse c.in-Ok.here ((find (map_in c.take-found.new.seat.me.1) c.args.key.now ≡ None) × (v ≡ []))) (sym c.deref.ensures.value) c.in-Ok.ensures.absent))) c.give.ensures.unlocked in
    record {
      of = c.give.ensures.of ∙ (c.look.ensures.same.0 ∙ (c.take-found.ensures.of ∙ s.of));
      idle = k.idle;
      alone_is = k.sole ∙ s.alone_is;
      next_is = k.next ∙ s.next_is;
      room_is = k.room ∙ s.room_is;
      above = s.above;
      within = s.within;
    }
