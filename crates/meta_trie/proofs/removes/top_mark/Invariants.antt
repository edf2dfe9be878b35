use Rattle.std.proofs.Common.{◌≡◌, ◌<◌, ◌≤◌, ℕ}
use Rattle.row_words.specs.Decode.{mark_at}
use Rattle.meta_trie.proofs.removes.top_mark.Given as goal

abbrev pub invariant-loop-leaf : goal.invariant-loop-leaf
invariant-loop-leaf g l = record {
  some : 0 < l.top;
  most : (leaf : ℕ) → leaf < l.leaf → mark_at (g.R.Rows.shape l.fn.rows) (g.R.Rows.words l.fn.rows) leaf ≤ l.top;
  reached : 1 < l.top → (leaf : ℕ) × ((leaf < (g.R.Rows.shape l.fn.rows).leaves) × (mark_at (g.R.Rows.shape l.fn.rows) (g.R.Rows.words l.fn.rows) leaf ≡ l.top));
  words : g.R.Rows.words l.rows ≡ g.R.Rows.words l.fn.rows;
  shape : g.R.Rows.shape l.rows ≡ g.R.Rows.shape l.fn.rows;
  stays : g.R.Rows.stays l.fn.rows l.rows;
}
