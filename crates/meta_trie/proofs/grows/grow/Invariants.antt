use Rattle.std.proofs.Common.{◌≡◌, ◌+◌, ℕ, List, take, Option}
use Rattle.key_bytes.specs.Common.{lcp}
use Rattle.key_bytes.specs.Fnv.{prefix_hash}
use Rattle.anchor_rules.specs.Anchors.{Anchors}
use Rattle.meta_trie.specs.Words.{SameRest}
use Rattle.meta_trie.specs.Grows.{Grows, Growing, IsGrowing, back_count}
use Rattle.meta_trie.proofs.grows.grow.Given as goal

abbrev pub invariant-loop-n : goal.invariant-loop-n
invariant-loop-n g l = record {
  hash : l.hash ≡ prefix_hash (g.R.Rows.shape l.fn.rows).salt (take l.n l.anchor);
  state : IsGrowing (g.R.Rows.shape l.fn.rows) (g.R.Rows.words l.rows) l.anchor l.leaf l.n l.front l.back;
  grown : (A : Anchors) (left : ℕ) (lo : List ℕ) (hi : Option (List ℕ)) → Grows A left lo hi l.anchor → l.front ≡ lcp lo l.anchor + 1 → l.back ≡ back_count l.anchor hi → Growing (g.R.Rows.shape l.fn.rows) (g.R.Rows.words l.fn.rows) A left lo hi l.anchor l.leaf 0 → Growing (g.R.Rows.shape l.fn.rows) (g.R.Rows.words l.rows) A left lo hi l.anchor l.leaf l.n;
  rest : SameRest (g.R.Rows.shape l.fn.rows) (g.R.Rows.words l.fn.rows) (g.R.Rows.words l.rows);
  shape : g.R.Rows.shape l.rows ≡ g.R.Rows.shape l.fn.rows;
  stays : g.R.Rows.stays l.fn.rows l.rows;
}
