use Rattle.std.proofs.Common.{◌≡◌, ◌+◌, Some, None, nat_eq, sym, ap, ◌∙◌, subst, drop, get_or}
use Rattle.std.specs.List.{starts_with}
use Rattle.anchor_rules.specs.Anchors.{AreAnchors, anchor_at, next_anchor}
use Rattle.anchor_rules.proofs.Found.{closed_next_is, closed_last, pair_at}
use Rattle.anchor_rules.proofs.anchors.Anchors.closed.Goals as goal

pub returns-in-Some : goal.returns-in-Some
returns-in-Some c =
    let e : c.deref.result.now ≡ c.args.self.now = c.deref.ensures.value ∙ c.self.view_is in
    let here = pair_at c.args.self.now c.args.i c.index.result.now c.requires (c.index.ensures ∙ ap (λ A. get_or A c.args.i c.index.result.now) c.self.view_is) in
    let anchor : c.get.result.now ≡ anchor_at c.args.self.now c.args.i = c.get.ensures ∙ here.0 in
    let next : Some c.in-Some.next.now ≡ next_anchor (drop (c.args.i + 1) c.args.self.now) = c.in-Some.ensures ∙ ap (λ A. next_anchor (drop (c.args.i + 1) A)) e in
    c.starts_with.ensures.value ∙ (ap (starts_with nat_eq c.in-Some.next.now) anchor ∙ closed_next_is c.args.self.now c.args.i c.in-Some.next.now (subst AreAnchors c.self.view_is c.self.invariant.0) c.requires next)

pub returns-in-None : goal.returns-in-None
returns-in-None c =
    let e : c.deref.result.now ≡ c.args.self.now = c.deref.ensures.value ∙ c.self.view_is in
    let none : None ≡ next_anchor (drop (c.args.i + 1) c.args.self.now) = c.in-None.ensures ∙ ap (λ A. next_anchor (drop (c.args.i + 1) A)) e in
    sym (closed_last c.args.self.now c.args.i (subst AreAnchors c.self.view_is c.self.invariant.0) c.requires none)
