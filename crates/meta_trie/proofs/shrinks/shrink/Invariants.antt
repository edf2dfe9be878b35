use Rattle.std.proofs.Common.{◌≡◌, ℕ, List, take, Option}
use Rattle.key_bytes.specs.Fnv.{prefix_hash}
use Rattle.anchor_rules.specs.Anchors.{Anchors}
use Rattle.meta_trie.specs.Words.{SameRest}
use Rattle.meta_trie.specs.Shrinks.{Shrinks, Shrinking, IsShrinking}
use Rattle.meta_trie.proofs.shrinks.shrink.Given as goal

abbrev pub invariant-loop-n : goal.invariant-loop-n
invariant-loop-n g l = record {
  hash : l.hash ≡ prefix_hash (g.R.Rows.shape l.fn.rows).salt (take l.n l.anchor);
  state : IsShrinking (g.R.Rows.shape l.fn.rows) (g.R.Rows.words l.rows) l.anchor l.left l.after l.n l.front l.back;
  shrunk : (A : Anchors) (leaf : ℕ) (lo : List ℕ) (hi : Option (List ℕ)) → Shrinks A leaf lo l.anchor hi l.left l.after l.front l.back → Shrinking (g.R.Rows.shape l.fn.rows) (g.R.Rows.words l.fn.rows) A leaf lo l.anchor hi 0 → Shrinking (g.R.Rows.shape l.fn.rows) (g.R.Rows.words l.rows) A leaf lo l.anchor hi l.n;
  rest : SameRest (g.R.Rows.shape l.fn.rows) (g.R.Rows.words l.fn.rows) (g.R.Rows.words l.rows);
  shape : g.R.Rows.shape l.rows ≡ g.R.Rows.shape l.fn.rows;
  stays : g.R.Rows.stays l.fn.rows l.rows;
}
