use Rattle.std.proofs.Common.{◌≡◌, ◌<◌, ◌*◌, ℕ, get_or}
use Rattle.row_words.specs.Bytes.{byte_at}
use Rattle.row_words.proofs.words.words_begin.Given as goal

abbrev pub invariant-loop-i : goal.invariant-loop-i
invariant-loop-i l = (j : ℕ) → j < 8 * l.i → byte_at l.words 0 j ≡ get_or l.bytes j 0
