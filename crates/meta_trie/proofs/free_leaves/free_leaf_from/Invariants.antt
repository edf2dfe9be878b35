use Rattle.std.proofs.Common.{◌≡◌, ◌≢◌, ◌<◌, ℕ}
use Rattle.row_words.specs.Decode.{mark_at}
use Rattle.meta_trie.proofs.free_leaves.free_leaf_from.Given as goal

abbrev pub invariant-loop-leaf : goal.invariant-loop-leaf
invariant-loop-leaf g l = record {
  live : (leaf : ℕ) → leaf < l.leaf → mark_at (g.R.Rows.shape l.fn.rows) (g.R.Rows.words l.fn.rows) leaf ≢ 0;
  words : g.R.Rows.words l.rows ≡ g.R.Rows.words l.fn.rows;
  shape : g.R.Rows.shape l.rows ≡ g.R.Rows.shape l.fn.rows;
  stays : g.R.Rows.stays l.fn.rows l.rows;
}
