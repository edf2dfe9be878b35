use Rattle.std.proofs.Common.{◌≡◌, Bool, true, false, ap, cond}
use Rattle.map_model.specs.Calls.{Gone, Absent}
use Rattle.map_model.specs.Ordered.{was_gone}
use Rattle.map_model.proofs.PlainHistories.{plain_enters_only}
use Rattle.map_model.proofs.plain.PlainMapOrdered.del.Goals as goal

answered : (b a : Bool) → b ≡ a → was_gone b ≡ cond a Gone Absent
answered true a e = ap (λ w. cond w Gone Absent) e
answered false a e = ap (λ w. cond w Gone Absent) e

pub returns-clause-ok : goal.returns-clause-ok
returns-clause-ok c = plain_enters_only _ _ _ _ c.take.ensures.map (answered _ _ c.take.ensures.gone)
