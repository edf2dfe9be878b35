use Rattle.std.proofs.lemmas.Result.{IfOk-weaker}
use Rattle.map_model.proofs.Growing.{follows_weaker}
use Rattle.test_stores.proofs.refusing.RefusingOrdered.part.Goals as goal

-- what holds of a lane that is alone holds of one that isn't
pub returns-in-None-clause-ok : goal.returns-in-None-clause-ok
returns-in-None-clause-ok c =
    let ok = rw (c.in-None.ensures.refuses) at c.part.ensures.ok in
    IfOk-weaker c.part.result _ _ (λ upto goes. follows_weaker _ _ _ _ (λ old new e. record {
      enters = record { begins = e.enters.begins; legal = e.enters.legal; mine = e.enters.mine; alone = λ sole. absurd (cc sole) };
      last = e.last;
    }) goes) ok
