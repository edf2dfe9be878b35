use Rattle.std.proofs.Common.{arith}
use Rattle.leaf_store.proofs.Fronts.{front_unlisted}
use Rattle.leaf_store.proofs.Listing.{listed}
use Rattle.leaf_store.proofs.place_order.take_place.Goals as goal

pub index_of-at-requires : goal.index_of-at-requires
index_of-at-requires g c = rw c.deref.ensures.value (listed c.args.order.now.items c.args.place c.requires.places (omega (arith, c.if-place-len.false, c.len.ensures)))

pub returns-then-place-len-clause-front : goal.returns-then-place-len-clause-front
returns-then-place-len-clause-front g c = λ d. front_unlisted c.args.rows.now c.args.order.now.items c.requires.places (omega (arith, c.requires.last, c.requires.few)) c.args.front c.requires.front c.args.place (omega (arith, c.requires.last, c.requires.in_range)) d (omega (arith, c.if-place-len.true, c.len.ensures))

pub returns-clause-front : goal.returns-clause-front
returns-clause-front g c = λ d. c.take_listed.ensures.front c.args.front c.less_front.result d c.requires.front c.less_front.ensures
