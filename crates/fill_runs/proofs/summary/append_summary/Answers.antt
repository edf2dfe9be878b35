use Rattle.std.proofs.Common.{[], ◌∷◌, ◌++◌, ap, ◌∙◌}
use Rattle.std.specs.Prelude.{codes}
use Rattle.line_protocol.specs.ReplyLine.{number_line}
use Rattle.fill_runs.proofs.Summing.{ten_lines}
use Rattle.fill_runs.proofs.summary.append_summary.Goals as goal

pub returns : goal.returns
returns c =
    ten_lines c.args.out.now.items c.append_count.new.out.items c.append_count-2.new.out.items c.append_count-3.new.out.items c.append_count-4.new.out.items c.append_count-5.new.out.items c.append_count-6.new.out.items c.append_count-7.new.out.items c.append_count-8.new.out.items c.append_count-9.new.out.items c.append_count-10.new.out.items
    (number_line (codes "LINES") (c.args.requests ∷ [])) (number_line (codes "NEW") (c.args.counts.now.news ∷ [])) (number_line (codes "SET") (c.args.counts.now.sets ∷ [])) (number_line (codes "VALUE") (c.args.counts.now.values ∷ [])) (number_line (codes "NONE") (c.args.counts.now.nones ∷ [])) (number_line (codes "GONE") (c.args.counts.now.gones ∷ [])) (number_line (codes "PAIR") (c.args.counts.now.pairs ∷ [])) (number_line (codes "END") (c.args.counts.now.ends ∷ [])) (number_line (codes "FULL") (c.args.counts.now.fulls ∷ [])) (number_line (codes "NOMEM") (c.args.counts.now.no_memories ∷ []))
    (c.in_ok-append_count.ensures ∙ ap (λ n. c.args.out.now.items ++ number_line (codes "LINES") (n ∷ [])) c.from.ensures) c.in_ok-append_count-2.ensures c.in_ok-append_count-3.ensures c.in_ok-append_count-4.ensures c.in_ok-append_count-5.ensures c.in_ok-append_count-6.ensures c.in_ok-append_count-7.ensures c.in_ok-append_count-8.ensures c.in_ok-append_count-9.ensures c.in_ok-append_count-10.ensures
