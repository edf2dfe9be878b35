use Rattle.std.proofs.Common.{◌≡◌, take}
use Rattle.std.specs.Vec.{vec_capacity}
use Rattle.leaf_tags.specs.Tags.{places_from}
use Rattle.leaf_tags.proofs.tags.Tags.split_off.Given as goal

abbrev pub invariant-loop-at : goal.invariant-loop-at
invariant-loop-at l = record {
  moved : l.right-inside.pairs.items ≡ places_from l.count (take l.at l.self-inside.pairs.items);
  capacity : vec_capacity l.right-inside.pairs ≡ vec_capacity l.initial.right-inside.pairs;
}
