use Rattle.std.proofs.Common.{◌≡◌, ◌≤◌, ◌<◌, ◌+◌, ◌-◌, ◌*◌, ℕ, length, take, None}
use Rattle.key_bytes.specs.Fnv.{prefix_hash}
use Rattle.anchor_rules.specs.Anchors.{Anchors}
use Rattle.anchor_rules.specs.Items.{item}
use Rattle.row_words.specs.Decode.{item_at}
use Rattle.meta_trie.specs.Stands.{StandsFor, MostInBucket}
use Rattle.prefix_search.specs.Search.{Tells, length_digits}
use Rattle.prefix_search.proofs.Digits.{Left}
use Rattle.prefix_search.proofs.longests.reach.Given as goal

-- No longer length has an item, and the binary digits of the lengths that are left pay for the looks to come.
-- As many rows were read as steps were counted.
abbrev pub invariant-loop-low : goal.invariant-loop-low
invariant-loop-low g l = record {
  words : g.R.Rows.words l.rows ≡ g.R.Rows.words l.fn.rows;
  counted : g.R.Rows.rows_read l.rows + l.fn.steps ≡ g.R.Rows.rows_read l.fn.rows + l.steps;
  shape : g.R.Rows.shape l.rows ≡ g.R.Rows.shape l.fn.rows;
  stays : g.R.Rows.stays l.fn.rows l.rows;
  low_high : l.low ≤ l.high;
  high_key : l.high ≤ length l.key;
  hash : l.hash ≡ prefix_hash (g.R.Rows.shape l.fn.rows).salt (take l.low l.key);
  used : l.at < (g.R.Rows.shape l.fn.rows).items;
  known : (A : Anchors) → StandsFor (g.R.Rows.shape l.fn.rows) (g.R.Rows.words l.fn.rows) A → Tells A (take l.low l.key) (item_at (g.R.Rows.shape l.fn.rows) (g.R.Rows.words l.fn.rows) l.at);
  longest : (A : Anchors) → StandsFor (g.R.Rows.shape l.fn.rows) (g.R.Rows.words l.fn.rows) A → (m : ℕ) → l.high < m → m ≤ length l.key → item A (take m l.key) ≡ None;
  cost : (A : Anchors) → StandsFor (g.R.Rows.shape l.fn.rows) (g.R.Rows.words l.fn.rows) A → (c : ℕ) → MostInBucket (g.R.Rows.shape l.fn.rows) A c → Left (l.high - l.low) l.steps (l.fn.steps + length_digits A l.key * c) c;
}

abbrev pub decreases-loop-low : goal.decreases-loop-low
decreases-loop-low g l = l.high - l.low
