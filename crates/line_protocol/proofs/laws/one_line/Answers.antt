use Rattle.line_protocol.proofs.OneLine.{text_one_line, pair_one_line}
use Rattle.line_protocol.proofs.laws.one_line.Goals as goal

pub returns-clause-answers : goal.returns-clause-answers
returns-clause-answers c = text_one_line

pub returns-clause-pairs : goal.returns-clause-pairs
returns-clause-pairs c = pair_one_line
