use Rattle.line_protocol.proofs.Escapes.{read_again}
use Rattle.line_protocol.proofs.laws.unescape_again.Goals as goal

pub returns : goal.returns
returns c = read_again
