use Rattle.std.proofs.Common.{refl}
use Rattle.row_words.specs.VecRows.{words_of}
use Rattle.leaf_table.proofs.LiveLeaves.{live_none}
use Rattle.leaf_table.proofs.WholeCalls.{made_stands}
use Rattle.leaf_table.proofs.Written.{moved, room_moved}
use Rattle.leaf_table.proofs.table.LeafTable.make.Goals as goal

pub invariant_of-result : goal.invariant_of-result
invariant_of-result c = ((moved _ _ _ _ _ _ _ c.in-Ok-Ok.ensures.shape refl (made_stands c.args.shape.now (words_of c.in-Ok-Ok.rows) c.in-Ok-Ok.leaves.items c.in_default.ensures.ok c.in-Ok-Ok.ensures.stands c.in-Ok-Ok.ensures'.first c.in-Ok-Ok.ensures'.salts c.in-Ok-Ok.ensures'.empty)).whole, live_none _, room_moved _ _ _ _ c.in-Ok-Ok.ensures.shape refl c.in-Ok-Ok.ensures'.reserved)

pub returns-in-Ok-Ok-clause-ok : goal.returns-in-Ok-Ok-clause-ok
returns-in-Ok-Ok-clause-ok c = (moved _ _ _ _ _ _ _ c.in-Ok-Ok.ensures.shape refl (made_stands c.args.shape.now (words_of c.in-Ok-Ok.rows) c.in-Ok-Ok.leaves.items c.in_default.ensures.ok c.in-Ok-Ok.ensures.stands c.in-Ok-Ok.ensures'.first c.in-Ok-Ok.ensures'.salts c.in-Ok-Ok.ensures'.empty)).is
