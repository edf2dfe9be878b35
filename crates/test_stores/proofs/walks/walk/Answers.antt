use Rattle.std.proofs.lemmas.Result.{on_ok_weaker}
use Rattle.test_stores.proofs.Walking.{walks_whole}
use Rattle.test_stores.proofs.walks.walk.Goals as goal

pub returns-clause-whole : goal.returns-clause-whole
returns-clause-whole g c = on_ok_weaker c.walk_parts.result (λ follows. walks_whole _ _ _ _ _ _ _ _ _ follows) c.walk_parts.ensures.ok
