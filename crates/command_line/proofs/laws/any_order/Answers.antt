use Rattle.command_line.proofs.Orders.{passed}
use Rattle.command_line.proofs.laws.any_order.Goals as goal

pub returns : goal.returns
returns c = λ word front back m n may. passed word front back m n may
