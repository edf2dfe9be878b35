use Rattle.std.proofs.Common.{rules, ◌≡◌}
use Rattle.std.specs.Ordering.{is_lt}
use Rattle.std.proofs.lemmas.Cmp.{nat_list_cmp_total}
use Rattle.std.proofs.lemmas.List.Sorted.{answers_always, ranks_by}
use Rattle.key_bytes.specs.Order.{is_below}
use Rattle.leaf_store.proofs.Ranked.{is_order}
use Rattle.leaf_store.proofs.ranks.sorted_keys.Goals as goal

pub returns-clause-order : goal.returns-clause-order
returns-clause-order g c =
    is_order (λ p. p.0.now) (λ p. p.1) c.args.rows.now c.requires _ _ c.in_ok-keys.ensures.keys c.in_ok-keys.ensures.places c.sort_by.ensures.permutation
    (c.in_ok-sort_by.ensures.sorted (λ x y. is_below x.0.now y.0.now) (ranks_by nat_list_cmp_total (λ p. p.0.now)) (answers_always _ (λ a r. is_lt r ≡ is_below a.0.now.0.now a.1.0.now.0.now) _ (λ f a r q called. search rules)))
