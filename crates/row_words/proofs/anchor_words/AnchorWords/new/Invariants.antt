use Rattle.std.proofs.Common.{◌≡◌, ◌<◌, ◌+◌, ◌*◌, ◌/◌, ◌%◌, ◌^◌, ℕ, length, get_or}
use Rattle.row_words.proofs.anchor_words.AnchorWords.new.Given as goal

abbrev pub invariant-loop-i : goal.invariant-loop-i
invariant-loop-i l = record {
  many : length l.words ≡ 32;
  packed : (i : ℕ) → i < l.i → (j : ℕ) → j < 8 → get_or l.words i 0 / 2 ^ (8 * j) % 256 ≡ get_or l.bytes (8 * i + j) 0;
}
