use Rattle.std.proofs.lemmas.Result.{on_err_weaker, IfOk-weaker}
use Rattle.map_model.proofs.Growing.{follows_then, grows_more}
use Rattle.test_stores.proofs.Walking.{gets_put}
use Rattle.test_stores.proofs.walks.put_then_get.Goals as goal

-- the put has its entry, and the get has none
pub returns-clause-refused : goal.returns-clause-refused
returns-clause-refused g c = on_err_weaker c.get.result (λ second. follows_then _ _ _ _ _ _ (λ old mid new p q. (_, grows_more _ _ _ _ old mid new p (rw (c.in_ok-put.ensures.kept.0, c.in_ok-put.ensures.kept.1) at q))) c.in_ok-put.ensures.ok second) c.get.ensures.refused

-- the get is right behind the put
pub returns-clause-value : goal.returns-clause-value
returns-clause-value g c =
    let get = rw (c.in_ok-put.ensures.kept.0, c.in_ok-put.ensures.kept.1) at c.get.ensures.ok in
    IfOk-weaker c.get.result _ _ (λ found second. gets_put _ _ _ _ _ _ _ _ found _ c.in_ok-put.ensures.ok second) get
