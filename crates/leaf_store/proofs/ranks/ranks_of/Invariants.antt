use Rattle.std.proofs.Common.{◌≡◌, ℕ, ◌<◌, length, map, get_or}
use Rattle.leaf_store.proofs.ranks.ranks_of.Given as goal

abbrev pub invariant-loop-rank : goal.invariant-loop-rank
invariant-loop-rank g l = record {
  size : length l.ranks.items ≡ length l.keys.items;
  ranks : (k : ℕ) → k < l.rank → get_or l.ranks.items (get_or (map (λ p. p.1) l.keys.items) k 0) 0 ≡ k;
}
