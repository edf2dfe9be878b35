use Rattle.std.proofs.Common.{◌+◌, ◌-◌, ◌≤◌, length, take}
use Rattle.leaf_store.specs.Rows.{AreTags}
use Rattle.leaf_store.proofs.rows.add_tags.Given as goal

abbrev pub invariant-loop-place : goal.invariant-loop-place
invariant-loop-place g l = record {
  tags : AreTags l.salt (take l.place l.rows) l.tags.pairs;
  from : length l.fn.tags.pairs ≤ l.place;
  room : length l.rows - l.place ≤ l.tags.spare;
  spare : l.fn.tags.spare ≤ l.place - length l.fn.tags.pairs + l.tags.spare;
}
