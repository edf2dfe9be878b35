use Rattle.command_line.proofs.Ranges.{ranges_from, ranges_to}
use Rattle.command_line.proofs.laws.same_ranges.Goals as goal

pub returns : goal.returns
returns c = λ k. (ranges_from k, ranges_to k)
