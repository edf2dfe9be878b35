use Rattle.std.proofs.Common.{◌≡◌, ◌<◌, ◌+◌, ℕ, get_or, length}
use Rattle.row_words.specs.Layout.{leaf_word}
use Rattle.row_words.proofs.leaves.leaf_words.Given as goal

abbrev pub invariant-loop-j : goal.invariant-loop-j
invariant-loop-j g l = record {
  words : g.W.LeafParts.words l.words ≡ g.W.LeafParts.words l.fn.words;
  read : g.W.LeafParts.rows_read l.words ≡ g.W.LeafParts.rows_read l.fn.words;
  shape : g.W.LeafParts.shape l.words ≡ g.W.LeafParts.shape l.fn.words;
  stays : g.W.LeafParts.stays l.fn.words l.words;
  many : length l.packed ≡ 32;
  same : (j : ℕ) → j < l.j → get_or l.packed j 0 ≡ get_or (g.W.LeafParts.words l.fn.words) (leaf_word (g.W.LeafParts.shape l.fn.words) l.at + 1 + j) 0;
}
