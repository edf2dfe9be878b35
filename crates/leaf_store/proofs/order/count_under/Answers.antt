use Rattle.std.proofs.Common.{rules, sym}
use Rattle.std.proofs.lemmas.List.Sorted.{IsPartitionPoint-from_clause}
use Rattle.leaf_store.proofs.Cuts.{length-filter_cut, is_row_under, under_first}
use Rattle.leaf_store.proofs.order.count_under.Goals as goal

pub returns-clause-count : goal.returns-clause-count
returns-clause-count g c =
    let cut = IsPartitionPoint-from_clause (is_row_under c.args.end.now) c.args.rows.now c.partition_point.result c.partition_point.ensures.partitioned (under_first c.args.rows.now c.requires c.args.end.now) (λ a r f called. search rules) in
    sym (length-filter_cut (is_row_under c.args.end.now) c.args.rows.now c.partition_point.result c.partition_point.ensures.bound cut.0 cut.1)
