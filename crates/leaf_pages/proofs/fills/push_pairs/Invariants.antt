use Rattle.std.proofs.Common.{◌≡◌, ◌≤◌, ◌-◌, ◌⊎◌, take, drop}
use Rattle.leaf_pages.proofs.fills.push_pairs.Given as goal

abbrev pub invariant-loop-i : goal.invariant-loop-i
invariant-loop-i l = record {
  low : l.fn.start ≤ l.i;
  high : (l.i ≤ l.fn.end) ⊎ (l.i ≡ l.fn.start);
  pairs : l.page.pairs ≡ take (l.i - l.fn.start) (drop l.fn.start l.fn.leaf.map);
}
