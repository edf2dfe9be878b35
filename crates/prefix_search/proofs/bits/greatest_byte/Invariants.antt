use Rattle.std.proofs.Common.{◌≡◌, ◌≤◌, ◌*◌, ◌+◌, ◌<◌}
use Rattle.anchor_rules.specs.Items.{greatest_below}
use Rattle.meta_trie.specs.Trie.{bit_of}
use Rattle.prefix_search.proofs.bits.greatest_byte.Given as goal

abbrev pub invariant-loop-bit : goal.invariant-loop-bit
invariant-loop-bit l = record {
  word : l.word < 4;
  end : l.end ≤ 64;
  same : greatest_below (bit_of l.bits) l.below ≡ greatest_below (bit_of l.bits) (64 * l.word + l.end);
}

abbrev pub decreases-loop-bit : goal.decreases-loop-bit
decreases-loop-bit l = l.word
