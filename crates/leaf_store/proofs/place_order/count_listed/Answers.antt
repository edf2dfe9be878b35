use Rattle.std.proofs.Common.{rules, ◌∙◌, sym}
use Rattle.std.proofs.lemmas.List.Sorted.{IsPartitionPoint-from_clause}
use Rattle.leaf_store.specs.Order.{is_place_under}
use Rattle.leaf_store.proofs.Cuts.{length-filter_cut}
use Rattle.leaf_store.proofs.Listing.{listed_count, listed_partition}
use Rattle.leaf_store.proofs.place_order.count_listed.Goals as goal

pub returns-clause-count : goal.returns-clause-count
returns-clause-count g c =
    let cut = IsPartitionPoint-from_clause (is_place_under c.args.rows.now c.args.end.now) c.args.order.now c.partition_point.result c.partition_point.ensures.partitioned (listed_partition c.args.rows.now c.requires.keys c.args.order.now c.requires.places c.requires.lists c.args.end.now) (λ a r f called. search rules) in
    sym (length-filter_cut (is_place_under c.args.rows.now c.args.end.now) c.args.order.now c.partition_point.result c.partition_point.ensures.bound cut.0 cut.1)
    ∙ sym (listed_count c.args.rows.now c.requires.keys c.args.order.now c.requires.places c.requires.lists c.args.end.now)
