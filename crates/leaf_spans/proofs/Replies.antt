-- New keys are counted up.
use Rattle.std.proofs.Common.{ℕ, ◌≤◌, arith}
use Rattle.map_model.specs.Calls.{Reply, Value, Absent, New, Set, Gone, Pairs}
use Rattle.leaf_spans.specs.Calls.{CountsNew}

pub counts_up : (reply : Reply) (before after : ℕ) → CountsNew reply before after → before ≤ after
counts_up New before after e = omega arith
counts_up (Value value) before after e = omega arith
counts_up Absent before after e = omega arith
counts_up Set before after e = omega arith
counts_up Gone before after e = omega arith
counts_up (Pairs pairs) before after e = omega arith
