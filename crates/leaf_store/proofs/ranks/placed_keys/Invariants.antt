use Rattle.std.proofs.Common.{◌≡◌, ◌+◌, ◌-◌, ◌≤◌, length, map}
use Rattle.std.specs.List.{All, range_with_len}
use Rattle.std.specs.Vec.{vec_capacity}
use Rattle.leaf_store.specs.Ranks.{HasKey}
use Rattle.leaf_store.proofs.ranks.placed_keys.Given as goal

abbrev pub invariant-loop-place : goal.invariant-loop-place
invariant-loop-place g l = record {
  keys : All (λ p. HasKey l.rows p.0.now p.1) l.keys.items;
  places : map (λ p. p.1) l.keys.items ≡ range_with_len 0 l.place;
  room : length l.keys.items + (length l.rows - l.place) ≤ vec_capacity l.keys;
}
