use Rattle.std.proofs.Common.{◌≡◌, ◌-◌, ◌≤◌, ℕ, List, length, take, sym, ap, subst, ◌∙◌, arith}
use Rattle.std.proofs.lemmas.List.{length-take-le}
use Rattle.map_model.specs.Pages.{Paged, joined, start_at}
use Rattle.map_model.proofs.Pages.{joined-cut, length-cut, start_at-le}
use Rattle.map_model.proofs.page.Page.front.Goals as goal

pub start_of-requires : goal.start_of-requires
start_of-requires c =
    let count = ap (λ (p : Paged). length p.pairs) (sym c.self.view_is) ∙ length-cut c.self.inside.bytes.items 0 c.self.inside.ends.items in
    rw c.deref-2.ensures.value (subst (λ n. c.args.count ≤ n) count c.requires)

pub slice_bounds-result-end : goal.slice_bounds-result-end
slice_bounds-result-end c =
    let bytes = c.self.inside.bytes.items in
    let ends = c.self.inside.ends.items in
    let count = ap (λ (p : Paged). length p.pairs) (sym c.self.view_is) ∙ length-cut bytes 0 ends in
    let within = start_at-le 0 ends c.self.inside.used c.args.count c.self.invariant.0 (subst (λ n. c.args.count ≤ n) count c.requires) in
    let is : c.start_of.result ≡ start_at 0 ends c.args.count = c.start_of.ensures ∙ ap (λ (es : List (ℕ × ℕ)). start_at 0 es c.args.count) c.deref-2.ensures.value in
    let long : length c.deref.result.now ≡ length bytes = ap length c.deref.ensures.value in
    sym (length-take-le c.start_of.result c.deref.result.now (omega (arith, is, within.1, c.self.invariant.1, long)))

pub returns : goal.returns
returns c =
    let bytes = c.self.inside.bytes.items in
    let ends = c.self.inside.ends.items in
    let count = ap (λ (p : Paged). length p.pairs) (sym c.self.view_is) ∙ length-cut bytes 0 ends in
    let is : c.start_of.result ≡ start_at 0 ends c.args.count = c.start_of.ensures ∙ ap (λ (es : List (ℕ × ℕ)). start_at 0 es c.args.count) c.deref-2.ensures.value in
    let upto = start_at 0 ends c.args.count in
    let whole : upto ≡ upto - 0 = omega arith in
    ap (λ n. take n c.deref.result.now) is
    ∙ ap (take upto) c.deref.ensures.value
    ∙ ap (λ n. take n bytes) whole
    ∙ sym (joined-cut bytes 0 ends c.self.inside.used c.args.count c.self.invariant.0 (subst (λ n. c.args.count ≤ n) count c.requires))
    ∙ ap (λ (p : Paged). joined (take c.args.count p.pairs)) c.self.view_is
