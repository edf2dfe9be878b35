use Rattle.std.proofs.Common.{rules, of_calls}
use Rattle.index_server.proofs.Working.{each_worked}
use Rattle.index_server.proofs.workers.work_each.Goals as goal

pub returns-then-count-gt0 : goal.returns-then-count-gt0
returns-then-count-gt0 g c =
    each_worked _ _ (search rules) (λ i d less. let k = (c.for_each_mut.ensures i d less).1 in rw (← k.argument_is, ← k.left) (search of_calls))
