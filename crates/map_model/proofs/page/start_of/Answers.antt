use Rattle.std.proofs.Common.{◌-◌, ◌≡◌, sym, ap, ◌∙◌, arith, suc}
use Rattle.map_model.specs.Pages.{start_at}
use Rattle.map_model.proofs.Pages.{start_at-suc}
use Rattle.map_model.proofs.page.start_of.Goals as goal

pub returns-else-i-eq0 : goal.returns-else-i-eq0
returns-else-i-eq0 c =
    let i = c.args.i in
    let next : suc (i - 1) ≡ i = omega (arith, c.if-i-eq0.false) in
    sym (start_at-suc 0 c.args.ends.now (i - 1) (0, 0) (omega (arith, c.requires, c.if-i-eq0.false))) ∙ ap (start_at 0 c.args.ends.now) next
