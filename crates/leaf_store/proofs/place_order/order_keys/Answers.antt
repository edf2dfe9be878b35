use Rattle.std.proofs.Common.{◌∙◌, ap, List, ℕ}
use Rattle.std.specs.Ordering.{is_lt}
use Rattle.std.specs.Cmp.Lexicographic.{slice_cmp}
use Rattle.std.proofs.Common.{nat_cmp}
use Rattle.map_model.specs.Halves.{key_at}
use Rattle.leaf_store.proofs.place_order.order_keys.Goals as goal

pub returns : goal.returns
returns g c = ap is_lt (c.cmp.ensures ∙ (ap (λ (x : List ℕ). slice_cmp nat_cmp x c.key_in-2.result.now) c.key_in.ensures ∙ ap (slice_cmp nat_cmp (key_at c.args.rows.now c.args.a)) c.key_in-2.ensures))
