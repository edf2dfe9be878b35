use Rattle.std.proofs.Common.{ap, ◌∙◌, arith}
use Rattle.map_model.specs.Pages.{Paged}
use Rattle.map_model.proofs.Pages.{cut-same}
use Rattle.map_model.proofs.page.Page.reserve.Goals as goal

pub returns-clause-same : goal.returns-clause-same
returns-clause-same c =
    let all = c.make_room.ensures in
    rw c.reserve.ensures.items (cut-same c.self.inside.bytes.items c.make_room.new.bytes.items c.self.inside.ends.items c.self.inside.used c.self.invariant.0 c.self.invariant.1 (omega (arith, all.longer, c.self.invariant.1)) all.front ∙ ap (λ (p : Paged). p.pairs) c.self.view_is)
