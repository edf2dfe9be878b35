use Rattle.std.proofs.Common.{ℕ, List, rules}
use Rattle.std.specs.Ordering.{is_le}
use Rattle.std.proofs.lemmas.List.Sorted.{IsPartitionPoint-from_clause}
use Rattle.key_bytes.specs.Order.{bytes_cmp}
use Rattle.anchor_rules.proofs.Found.{parted, ended}
use Rattle.anchor_rules.proofs.anchors.first_above.Goals as goal

pub returns : goal.returns
returns c =
    ended c.args.rows.now c.args.bytes.now c.partition_point.result c.requires c.partition_point.ensures.bound
    (IsPartitionPoint-from_clause (λ (y : List ℕ × ℕ). is_le (bytes_cmp y.0 c.args.bytes.now)) c.args.rows.now c.partition_point.result c.partition_point.ensures.partitioned (parted c.args.rows.now c.args.bytes.now c.requires.rises) (λ a r f' called. search rules))
