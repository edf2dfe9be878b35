use Rattle.std.proofs.Common.{ap, ◌∙◌, option_copied}
use Rattle.line_protocol.specs.Words.{words_after}
use Rattle.line_protocol.specs.Requests.{quit}
use Rattle.line_protocol.proofs.Splits.{words_some, quit_more}
use Rattle.line_protocol.proofs.read.read_quit.Goals as goal

pub returns-in-Some-clause-answers : goal.returns-in-Some-clause-answers
returns-in-Some-clause-answers c =
    ap (λ r. quit (words_after (option_copied r))) c.in-Some.is ∙ quit_more _ (words_some c.in-Some.field-0.now)
