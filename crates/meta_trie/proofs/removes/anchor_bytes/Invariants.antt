use Rattle.std.proofs.Common.{◌≡◌, ◌<◌, ℕ, length, get_or}
use Rattle.row_words.specs.declared.layout.TheConstants.{LONGEST_ANCHOR}
use Rattle.meta_trie.proofs.removes.anchor_bytes.Given as goal

abbrev pub invariant-loop-i : goal.invariant-loop-i
invariant-loop-i l = record {
  many : length l.bytes ≡ LONGEST_ANCHOR;
  same : (j : ℕ) → j < l.i → get_or l.bytes j 0 ≡ get_or l.anchor j 0;
}
