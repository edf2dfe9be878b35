use Rattle.std.proofs.Common.{inl, ap, arith}
use Rattle.row_words.specs.declared.shape.Shape.{Shape}
use Rattle.solo_index.proofs.Opening.{room_after}
use Rattle.solo_index.proofs.keys.open_leaf.Goals as goal

pub returns-in-Ok-clause-room : goal.returns-in-Ok-clause-room
returns-in-Ok-clause-room c = inl (room_after c.args.table.now c.place_of-place.new.self c.split.new.self c.place_of.new.self c.args.key.now c.place_of-place.result.leaf c.size.result c.place_of.result.leaf
    c.shape-hard.ensures.whole c.place_of-place.ensures.same c.place_of-place.ensures.place.leaf c.size.ensures (omega (arith, ap (λ (k : Shape). k.hard) c.shape-hard.ensures.shape)) c.in-Ok.ensures.ok c.place_of.ensures.same c.place_of.ensures.place.leaf)
