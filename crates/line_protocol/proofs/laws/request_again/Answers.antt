use Rattle.line_protocol.proofs.Again.{request_again}
use Rattle.line_protocol.proofs.laws.request_again.Goals as goal

pub returns : goal.returns
returns c = request_again
