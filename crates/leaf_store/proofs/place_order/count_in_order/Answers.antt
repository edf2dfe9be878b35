use Rattle.std.proofs.Common.{◌≡◌, ◌∙◌, [], eqb-true, sym, ap, length}
use Rattle.std.proofs.lemmas.List.{nil_from_length}
use Rattle.key_bytes.specs.declared.bound.Bound.TheVariants.{Low}
use Rattle.map_model.specs.Maps.{between}
use Rattle.leaf_store.proofs.Listing.{plain_rows}
use Rattle.leaf_store.proofs.Unsorted.{sorted_ascending}
use Rattle.leaf_store.proofs.place_order.count_in_order.Goals as goal

pub returns-then-is_empty-clause-count : goal.returns-then-is_empty-clause-count
returns-then-is_empty-clause-count g c =
    let none : c.args.order.now ≡ [] = nil_from_length c.args.order.now (eqb-true (length c.args.order.now) 0 (sym c.is_empty.ensures ∙ c.if-is_empty.true)) in
    c.count_under.ensures.count ∙ ap (λ m. length (between m Low c.args.end.now)) (sym (sorted_ascending c.args.rows.now (plain_rows c.args.rows.now c.args.order.now none c.requires.known)))
