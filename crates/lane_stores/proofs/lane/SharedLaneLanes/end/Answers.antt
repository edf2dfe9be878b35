use Rattle.std.proofs.Common.{◌≡◌, ◌+◌, max, sym, ap, ◌∙◌, subst, arith}
use Rattle.atomic_table.specs.Table.{Me}
use Rattle.lane_stores.specs.declared.view.View.{View}
use Rattle.lane_stores.specs.Rule.{Map, Has}
use Rattle.lane_facts.proofs.Names.{number_apart}
use Rattle.lane_stores.proofs.Beginnings.{among_front, among_back}
use Rattle.lane_stores.proofs.Entering.{joined_met, joined_idle, joined_one, greater_max}
use Rattle.lane_stores.proofs.lane.SharedLaneLanes.end.Goals as goal

pub join-requires-clause-of : goal.join-requires-clause-of
join-requires-clause-of c = (c.args.into.now.of, number_apart _ _ c.requires ∙ c.args.into.now.of)

pub overflow_add-into : goal.overflow_add-into
overflow_add-into c =
    let into = c.args.into.now in
    let both = c.join.ensures.both in
    omega (arith, c.join.ensures.looked.room, ap (λ (k : Me Map View). k.0.room) both, ap (λ (k : Me Map View). k.0.most) both, into.room_is, c.args.self.room_is, into.idle.fixed)

pub invariant_of-into : goal.invariant_of-into
invariant_of-into c =
    let into = c.args.into.now in
    let it = c.args.self in
    let both = c.join.ensures.both in
    let next : c.join.new.seat.me.0.next ≡ max into.next it.next = ap (λ (k : Me Map View). k.0.next) both ∙ (greater_max into.seat.me.0.next it.seat.me.0.next ∙ (ap (λ n. max n it.seat.me.0.next) into.next_is ∙ ap (max into.next) it.next_is)) in
    let room : c.join.new.seat.me.0.room ≡ into.room + it.room = omega (arith, ap (λ (k : Me Map View). k.0.room) both, into.room_is, it.room_is) in
    record {
      of = c.join.ensures.of ∙ into.of;
      idle = joined_idle into.map.now.lanes into.number c.args.into.now.seat.me c.args.self.seat.me c.join.new.seat.me into.idle both c.join.ensures.looked;
      alone_is = ap (λ (k : Me Map View). k.0.sole) both ∙ into.alone_is;
      next_is = omega (arith, next, c.max-into.ensures);
      room_is = room;
      above = omega (arith, into.above, c.max-into.ensures);
      within = omega (arith, next, room, c.max-into.ensures, c.join.ensures.looked.room, ap (λ (k : Me Map View). k.0.most) both, into.idle.fixed);
    }

pub returns-clause-one : goal.returns-clause-one
returns-clause-one c = joined_one c.args.into.now.seat.me c.args.self.seat.me c.join.new.seat.me c.join.ensures.both

pub returns-clause-begins : goal.returns-clause-begins
returns-clause-begins c = let met = joined_met c.args.into.now.seat.me c.args.self.seat.me c.join.new.seat.me c.join.ensures.both c.join.ensures.looked in (met.0.begins, met.1.begins)

pub returns-clause-into : goal.returns-clause-into
returns-clause-into c =
    let met = joined_met c.args.into.now.seat.me c.args.self.seat.me c.join.new.seat.me c.join.ensures.both c.join.ensures.looked in
    λ n has. (subst (λ l. Has l n) (sym (ap (λ (k : Me Map View). k.0.ended) c.join.ensures.both)) (among_front _ _ n has), met.0.all n has)

pub returns-clause-ended : goal.returns-clause-ended
returns-clause-ended c =
    let met = joined_met c.args.into.now.seat.me c.args.self.seat.me c.join.new.seat.me c.join.ensures.both c.join.ensures.looked in
    λ n has. (subst (λ l. Has l n) (sym (ap (λ (k : Me Map View). k.0.ended) c.join.ensures.both)) (among_back _ _ n has), met.1.all n has)
