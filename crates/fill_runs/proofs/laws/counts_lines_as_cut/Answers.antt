use Rattle.fill_runs.proofs.Cuts.{same_lines}
use Rattle.fill_runs.proofs.laws.counts_lines_as_cut.Goals as goal

pub returns : goal.returns
returns c = same_lines
