use Rattle.std.proofs.Common.{◌≡◌, ◌-◌, ◌++◌, replicate, vec_len, vec_capacity}
use Rattle.row_words.proofs.padded_words.fill.Given as goal

abbrev pub invariant-loop-i : goal.invariant-loop-i
invariant-loop-i l = record {
  items : l.words.items ≡ l.fn.words.items ++ replicate (l._i - vec_len l.fn.words) 0;
  many : vec_len l.words ≡ l._i;
  room : vec_capacity l.words ≡ vec_capacity l.fn.words;
}
