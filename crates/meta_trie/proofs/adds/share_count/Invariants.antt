use Rattle.std.proofs.Common.{◌≡◌, ◌+◌, ◌-◌, ◌≤◌, length, drop}
use Rattle.key_bytes.specs.Common.{lcp}
use Rattle.meta_trie.proofs.adds.share_count.Given as goal

abbrev pub invariant-same : goal.invariant-same
invariant-same l = (l.i ≤ length l.anchor) × (l.i ≤ length l.bytes) × (lcp l.anchor l.bytes ≡ l.i + lcp (drop l.i l.anchor) (drop l.i l.bytes))

abbrev pub decreases-same : goal.decreases-same
decreases-same l = length l.anchor - l.i
