use Rattle.std.proofs.Common.{◌<◌, sym, ap, ◌∙◌, length, subst}
use Rattle.map_model.specs.Pages.{Paged}
use Rattle.map_model.proofs.Pages.{length-cut}
use Rattle.map_model.proofs.page.Page.value.Goals as goal

pub pair_at-requires-clause-in_range : goal.pair_at-requires-clause-in_range
pair_at-requires-clause-in_range c =
    let count = ap (λ (p : Paged). length p.pairs) (sym c.self.view_is) ∙ length-cut c.self.inside.bytes.items 0 c.self.inside.ends.items in
    rw c.deref-2.ensures.value (subst (λ n. c.args.i < n) count c.requires)

pub pair_at-requires-clause-ends : goal.pair_at-requires-clause-ends
pair_at-requires-clause-ends c = rw (c.deref.ensures.value, c.deref-2.ensures.value) (c.self.inside.used, c.self.invariant.0, c.self.invariant.1)
