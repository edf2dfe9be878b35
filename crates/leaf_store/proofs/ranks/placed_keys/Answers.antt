use Rattle.std.proofs.Common.{arith, ap, length, refl}
use Rattle.leaf_store.proofs.Ranked.{keyed_more, places_more}
use Rattle.leaf_store.proofs.ranks.placed_keys.Goals as goal

pub loop-place-preserved : goal.loop-place-preserved
loop-place-preserved g c =
    let more = ap length c.push_reserved.ensures.items in
    record {
      keys = keyed_more (λ p. p.0.now) (λ p. p.1) c.args.rows.now _ _ _ c.loop-place.place c.push_reserved.ensures.items refl c.loop-place.invariant.keys c.loop-place-test.true c.index-rows-place.result refl;
      places = places_more (λ p. p.0.now) (λ p. p.1) c.args.rows.now _ _ _ c.loop-place.place c.push_reserved.ensures.items refl c.loop-place.invariant.places;
      room = (let room = c.loop-place.invariant.room in omega (arith, room, c.push_reserved.ensures.len, c.push_reserved.ensures.capacity));
    }
