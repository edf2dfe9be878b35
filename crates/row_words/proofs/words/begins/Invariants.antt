use Rattle.std.proofs.Common.{◌≡◌, ◌<◌, ◌+◌, ◌*◌, ℕ, get_or}
use Rattle.row_words.specs.Bytes.{byte_at}
use Rattle.row_words.specs.Layout.{leaf_word}
use Rattle.row_words.proofs.words.begins.Given as goal

abbrev pub invariant-loop-i : goal.invariant-loop-i
invariant-loop-i g l = record {
  words : g.W.LeafParts.words l.words ≡ g.W.LeafParts.words l.fn.words;
  read : g.W.LeafParts.rows_read l.words ≡ g.W.LeafParts.rows_read l.fn.words;
  shape : g.W.LeafParts.shape l.words ≡ g.W.LeafParts.shape l.fn.words;
  stays : g.W.LeafParts.stays l.fn.words l.words;
  same : (j : ℕ) → j < 8 * l.i → byte_at (g.W.LeafParts.words l.fn.words) (leaf_word (g.W.LeafParts.shape l.fn.words) l.leaf + 1) j ≡ get_or l.bytes j 0;
}
