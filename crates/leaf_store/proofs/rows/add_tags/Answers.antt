use Rattle.std.proofs.Common.{arith}
use Rattle.leaf_store.proofs.Settled.{retagged}
use Rattle.leaf_store.proofs.rows.add_tags.Goals as goal

pub loop-place-preserved : goal.loop-place-preserved
loop-place-preserved g c =
    let from = c.loop-place.invariant.from in
    let room = c.loop-place.invariant.room in
    let spare = c.loop-place.invariant.spare in
    let added = c.add.ensures.spare in
    record {
      tags = retagged c.args.salt c.args.rows.now c.loop-place.place c.index-rows-place.result c.tag_of.result c.loop-place.tags.pairs c.add.new.self.pairs (omega arith) c.tag_of.ensures c.loop-place.invariant.tags c.add.ensures.pairs;
      from = omega arith;
      room = omega arith;
      spare = omega arith;
    }
