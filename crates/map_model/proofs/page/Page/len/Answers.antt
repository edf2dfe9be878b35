use Rattle.std.proofs.Common.{◌≡◌, rules, sym, ap, ◌∙◌, length}
use Rattle.map_model.specs.Pages.{Paged}
use Rattle.map_model.proofs.Pages.{length-cut}
use Rattle.map_model.proofs.page.Page.len.Goals as goal

pub returns : goal.returns
returns c =
    let count : c.len.result ≡ length c.self.inside.ends.items = search rules in
    count ∙ (sym (length-cut c.self.inside.bytes.items 0 c.self.inside.ends.items) ∙ ap (λ (p : Paged). length p.pairs) c.self.view_is)
