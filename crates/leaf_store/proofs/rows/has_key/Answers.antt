use Rattle.std.proofs.Common.{◌≡◌, ◌∙◌, List, ℕ, true, ap, subst, slice_index_or}
use Rattle.std.specs.Bool.{Decides}
use Rattle.std.proofs.lemmas.List.{get_or_default}
use Rattle.std.proofs.lemmas.Bool.Decides.{same_from_decides}
use Rattle.std.proofs.lemmas.Slice.Eq.{bytes_eq-Decides}
use Rattle.key_bytes.specs.Order.{is_same}
use Rattle.key_bytes.proofs.Orders.{same_is, same_itself}
use Rattle.leaf_store.proofs.rows.has_key.Goals as goal

same_Decides : (a b : List ℕ) → Decides (is_same a b) (a ≡ b)
same_Decides a b = (same_is a b, λ e. subst (λ x. is_same a x ≡ true) e (same_itself a))

pub returns : goal.returns
returns g c d =
    c.eq.ensures ∙ (same_from_decides _ _ (bytes_eq-Decides c.bytes.result.now c.bytes-2.result.now) (same_Decides c.bytes.result.now c.bytes-2.result.now)
    ∙ (ap (λ a. is_same a c.bytes-2.result.now) (c.bytes.ensures.bytes ∙ ap (λ p. p.0) (get_or_default c.args.rows.now c.args.place _ d c.requires)) ∙ ap (λ b. is_same (slice_index_or c.args.rows.now c.args.place d).0 b) c.bytes-2.ensures.bytes))
