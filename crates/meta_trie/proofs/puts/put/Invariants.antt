use Rattle.std.proofs.Common.{◌≡◌, ◌<◌, ◌≤◌, ◌+◌, ℕ, get_or}
use Rattle.meta_trie.proofs.puts.put.Given as goal

abbrev pub invariant-loop-j : goal.invariant-loop-j
invariant-loop-j g l = record {
  inside : (i : ℕ) → i < l.j → get_or (g.R.Rows.words l.rows) (l.from + i) 0 ≡ get_or l.values i 0;
  before : (x : ℕ) → x < l.from → get_or (g.R.Rows.words l.rows) x 0 ≡ get_or (g.R.Rows.words l.fn.rows) x 0;
  behind : (x : ℕ) → l.from + l.j ≤ x → get_or (g.R.Rows.words l.rows) x 0 ≡ get_or (g.R.Rows.words l.fn.rows) x 0;
  shape : g.R.Rows.shape l.rows ≡ g.R.Rows.shape l.fn.rows;
  stays : g.R.Rows.stays l.fn.rows l.rows;
}
