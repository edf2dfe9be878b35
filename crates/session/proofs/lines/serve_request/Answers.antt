use Rattle.std.proofs.Common.{sym, subst, ap, ◌∙◌}
use Rattle.line_protocol.specs.declared.request.Request.TheVariants as asks
use Rattle.session.specs.Writes.{Reaches}
use Rattle.session.proofs.Joining.{transcribes_told}
use Rattle.session.proofs.OneCall.{line_told, one_asked, reaches_all}
use Rattle.session.proofs.lines.serve_request.Goals as goal

pub returns-in-Put-clause-served : goal.returns-in-Put-clause-served
returns-in-Put-clause-served g c =
    transcribes_told _ _ _ _ _ _ _ _ _ _ _ _ _ _ (λ xs p. subst (λ all. Reaches c.put_request.result all xs) (one_asked _ c.args.request (ap (λ v. asks.Put c.in-Put.key v) c.get.ensures ∙ sym c.in-Put.is)) p)
    (λ xs p. p) c.put_request.ensures.served

pub returns-in-Get-clause-served : goal.returns-in-Get-clause-served
returns-in-Get-clause-served g c =
    transcribes_told _ _ _ _ _ _ _ _ _ _ _ _ _ _ (λ xs p. subst (λ all. Reaches c.get_request.result all xs) (one_asked _ c.args.request (sym c.in-Get.is)) p) (λ xs p. p) c.get_request.ensures.served

pub returns-in-Del-clause-served : goal.returns-in-Del-clause-served
returns-in-Del-clause-served g c =
    transcribes_told _ _ _ _ _ _ _ _ _ _ _ _ _ _ (λ xs p. subst (λ all. Reaches c.del_request.result all xs) (one_asked _ c.args.request (sym c.in-Del.is)) p) (λ xs p. p) c.del_request.ensures.served

pub returns-in-Scan-clause-served : goal.returns-in-Scan-clause-served
returns-in-Scan-clause-served g c =
    transcribes_told _ _ _ _ _ _ _ _ _ _ _ _ _ _ (λ xs p. reaches_all c.serve_scan.result _ xs (p ∙ one_asked _ c.args.request
    (ap (λ f. asks.Scan f c.get-in-Scan.result.now c.in-Scan.most) c.into_bound-from.ensures ∙ (ap (λ t. asks.Scan c.in-Scan.from t c.in-Scan.most) c.get-in-Scan.ensures ∙ sym c.in-Scan.is))))
    (λ xs p. p) c.serve_scan.ensures.served

pub returns-in-Quit-clause-served : goal.returns-in-Quit-clause-served
returns-in-Quit-clause-served g c =
    transcribes_told _ _ _ _ _ _ _ _ _ _ _ _ _ _ (λ xs p. reaches_all c.reply.result _ xs (p ∙ one_asked asks.Quit c.args.request (sym c.in-Quit.is))) (λ xs p. p)
    (line_told _ _ _ _ _ _ _ _ _ _ _ _ (λ seen x told. told) (λ old history. g.met.O.Ordered.stands_legal _ old history) c.reply.ensures.gained)
