use Rattle.std.proofs.Common.{rules, ◌≡◌, ◌∙◌, sym}
use Rattle.std.specs.Ordering.{is_lt}
use Rattle.std.proofs.lemmas.List.Sorted.{answers_always}
use Rattle.leaf_store.proofs.Unsorted.{once_permutation, sorted_permutation, sorted_ascending}
use Rattle.leaf_store.proofs.Ascends.{by_key, by_key_order, sorted_ascends}
use Rattle.leaf_store.proofs.order.sort_rows.Goals as goal

pub returns-clause-rows : goal.returns-clause-rows
returns-clause-rows g c =
    let same = c.sort_unstable_by.ensures.permutation in
    let up = sorted_ascends c.sort_unstable_by.new.self.items (once_permutation c.args.rows.now.items c.sort_unstable_by.new.self.items same c.requires) (c.sort_unstable_by.ensures.sorted by_key by_key_order (answers_always _ (λ a r. is_lt r ≡ by_key a.0.now a.1.0.now) _ (λ f a r q called. search rules))) in
    sym (sorted_permutation c.args.rows.now.items c.sort_unstable_by.new.self.items same c.requires ∙ sorted_ascending c.sort_unstable_by.new.self.items up)
