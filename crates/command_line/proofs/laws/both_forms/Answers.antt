use Rattle.command_line.proofs.Orders.{both}
use Rattle.command_line.proofs.laws.both_forms.Goals as goal

pub returns : goal.returns
returns c = λ name value words dashed none. both name value words dashed none
