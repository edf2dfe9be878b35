use Rattle.std.proofs.Common.{◌≡◌, ◌+◌, ◌-◌, ℕ, length}
use Rattle.anchor_rules.specs.Anchors.{Anchors}
use Rattle.anchor_rules.specs.Items.{item}
use Rattle.meta_trie.specs.Trie.{bucket_of}
use Rattle.meta_trie.specs.Stands.{StandsFor}
use Rattle.meta_trie.proofs.Walks.{Walk}
use Rattle.meta_trie.proofs.places.place_by_hash.Given as goal

abbrev pub invariant-loop-link : goal.invariant-loop-link
invariant-loop-link g l = record {
  words : g.R.Rows.words l.rows ≡ g.R.Rows.words l.fn.rows;
  counted : g.R.Rows.rows_read l.rows + l.fn.steps ≡ g.R.Rows.rows_read l.fn.rows + l.steps;
  shape : g.R.Rows.shape l.rows ≡ g.R.Rows.shape l.fn.rows;
  stays : g.R.Rows.stays l.fn.rows l.rows;
  walk : (A : Anchors) (s : StandsFor (g.R.Rows.shape l.fn.rows) (g.R.Rows.words l.fn.rows) A) → (before : ℕ) × Walk (g.R.Rows.shape l.fn.rows) (g.R.Rows.words l.fn.rows) (item A) (s.trie.buckets (bucket_of (g.R.Rows.shape l.fn.rows) l.prefix)) l.prefix l.link before l.steps (l.fn.steps + length (s.trie.buckets (bucket_of (g.R.Rows.shape l.fn.rows) l.prefix)));
}

abbrev pub decreases-loop-link : goal.decreases-loop-link
decreases-loop-link g l = l.fn.steps + (g.R.Rows.shape l.fn.rows).items - l.steps
