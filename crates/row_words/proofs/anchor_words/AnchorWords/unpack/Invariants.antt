use Rattle.std.proofs.Common.{◌≡◌, ◌<◌, ◌*◌, ℕ, length, get_or}
use Rattle.row_words.proofs.anchor_words.AnchorWords.unpack.Given as goal

abbrev pub invariant-loop-i : goal.invariant-loop-i
invariant-loop-i l = record {
  many : length l.into ≡ 256;
  same : (j : ℕ) → j < 8 * l.i → j < length l.self → get_or l.into j 0 ≡ get_or l.self j 0;
}
