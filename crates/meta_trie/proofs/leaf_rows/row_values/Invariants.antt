use Rattle.std.proofs.Common.{◌≡◌, ◌<◌, ◌+◌, ◌*◌, ◌/◌, ◌%◌, ◌^◌, ℕ, length, get_or}
use Rattle.meta_trie.proofs.leaf_rows.row_values.Given as goal
use Rattle.row_words.specs.declared.layout.TheConstants.{LEAF_WORDS}

abbrev pub invariant-loop-i : goal.invariant-loop-i
invariant-loop-i l = record {
  many : length l.values ≡ LEAF_WORDS;
  bytes : (i : ℕ) → i < l.i → (j : ℕ) → j < 8 → get_or l.values (i + 1) 0 / 2 ^ (8 * j) % 256 ≡ get_or l.anchor (8 * i + j) 0;
}
