use Rattle.std.proofs.Common.{refl, ap, ◌∙◌}
use Rattle.line_protocol.specs.declared.request.Request.TheVariants as asks
use Rattle.session.proofs.Joining.{transcribes_none, transcribes_told}
use Rattle.session.proofs.OneCall.{one_asked, reaches_all}
use Rattle.session.proofs.Turning.{torn_none}
use Rattle.session.proofs.requests.del_request.Goals as goal

pub returns-in-Ok-clause-served : goal.returns-in-Ok-clause-served
returns-in-Ok-clause-served g c =
    transcribes_told _ _ _ _ _ _ _ _ _ _ _ _ _ _ (λ xs p. reaches_all c.serve_del.result _ xs (p ∙ one_asked _ _ (ap (λ k. asks.Del k) c.in-Ok.ensures))) (λ xs p. p) c.serve_del.ensures.served

pub returns-in-Err-clause-served : goal.returns-in-Err-clause-served
returns-in-Err-clause-served g c =
    transcribes_none _ _ _ _ _ _ _ _ _ (λ old history. g.met.O.Ordered.stands_legal _ old history) (_, refl) (torn_none _)
