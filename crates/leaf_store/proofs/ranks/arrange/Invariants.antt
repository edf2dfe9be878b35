use Rattle.std.proofs.Common.{◌≡◌, ℕ, ◌+◌, ◌-◌, ◌<◌, ◌≤◌, length, get_or}
use Rattle.std.specs.Vec.{vec_capacity}
use Rattle.map_model.specs.Maps.{sorted}
use Rattle.leaf_store.specs.Ranks.{AreRanks}
use Rattle.leaf_store.proofs.Numbered.{unsettled}
use Rattle.leaf_store.proofs.ranks.arrange.Given as goal

abbrev pub invariant-settled : goal.invariant-settled
invariant-settled g l = record {
  ranks : AreRanks l.rows.items l.ranks.items (sorted l.fn.rows.items);
  own : (k : ℕ) → k < l.place → get_or l.ranks.items k 0 ≡ k;
  in_range : l.place ≤ length l.rows.items;
  capacity : vec_capacity l.rows ≡ vec_capacity l.fn.rows;
}

abbrev pub decreases-settled : goal.decreases-settled
decreases-settled g l = length l.rows.items - l.place + unsettled 0 l.ranks.items
