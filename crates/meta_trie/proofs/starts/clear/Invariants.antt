use Rattle.std.proofs.Common.{◌≡◌, ◌<◌, ℕ, get_or}
use Rattle.meta_trie.proofs.starts.clear.Given as goal

abbrev pub invariant-loop-i : goal.invariant-loop-i
invariant-loop-i g l = record {
  zero : (x : ℕ) → x < l.i → get_or (g.R.Rows.words l.rows) x 0 ≡ 0;
  shape : g.R.Rows.shape l.rows ≡ g.R.Rows.shape l.fn.rows;
  stays : g.R.Rows.stays l.fn.rows l.rows;
}
