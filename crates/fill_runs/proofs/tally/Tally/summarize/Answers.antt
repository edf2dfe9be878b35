use Rattle.std.proofs.Common.{◌≡◌, ◌++◌, IfOk, ap, ◌∙◌, subst}
use Rattle.fill_runs.specs.Summary.{summary}
use Rattle.fill_runs.specs.Tallies.{summary_of}
use Rattle.fill_runs.proofs.Summing.{summary_told}
use Rattle.fill_runs.proofs.tally.Tally.summarize.Goals as goal

pub returns : goal.returns
returns c =
    let t = c.self.inside in
    let told = summary_told t.lines.counts t.text.bytes c.self.invariant.0.counts c.self.invariant.2 c.args.requests in
    subst (λ s. IfOk c.append_summary.result (λ _. c.append_summary.new.out.items ≡ s)) (ap (λ l. l ++ summary_of c.args.requests t.lines.counts) c.clear.ensures.items ∙ (told ∙ ap (summary c.args.requests) c.self.view_is)) c.append_summary.ensures
