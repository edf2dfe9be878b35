use Rattle.std.proofs.Common.{◌≡◌, ◌+◌, ◌-◌, drop}
use Rattle.anchor_rules.specs.Anchors.{anchor_at}
use Rattle.meta_trie.specs.Stands.{fresh_count, prefix_count}
use Rattle.meta_trie.proofs.builds.count_prefixes.Given as goal

abbrev pub invariant-loop-i : goal.invariant-loop-i
invariant-loop-i l = l.count + fresh_count (anchor_at l.anchors (l.i - 1)) (drop l.i l.anchors) ≡ prefix_count l.anchors
