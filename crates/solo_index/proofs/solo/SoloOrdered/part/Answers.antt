use Rattle.std.proofs.Common.{refl, ap}
use Rattle.map_model.specs.Calls.{Pairs}
use Rattle.solo_index.specs.Standing.{Store}
use Rattle.solo_index.proofs.Steps.{table_read}
use Rattle.solo_index.proofs.solo.SoloOrdered.part.Goals as goal

pub returns-clause-ok : goal.returns-clause-ok
returns-clause-ok c = table_read c.args.self.now.table c.first_part.new.self.table _ _ (ap (λ (s : Store). s.table) c.first_part.ensures.same) refl (ap Pairs c.in_ok-first_part.ensures.pairs)
