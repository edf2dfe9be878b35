use Rattle.std.proofs.Common.{◌≡◌, ◌-◌, sym, ap, ◌∙◌, subst, get_or}
use Rattle.anchor_rules.specs.Anchors.{AreAnchors, span, target}
use Rattle.anchor_rules.proofs.Spans.{in_target, only_target}
use Rattle.anchor_rules.proofs.Found.{target_is}
use Rattle.anchor_rules.proofs.anchors.Anchors.target.Goals as goal

pub returns-clause-target : goal.returns-clause-target
returns-clause-target c =
    target_is c.deref.result.now c.args.self.now c.bytes.result.now c.args.key.now c.first_above-above.result c.index.result.now (c.deref.ensures.value ∙ c.self.view_is) c.bytes.ensures.bytes c.first_above-above.ensures (c.index.ensures ∙ ap (λ A. get_or A (c.first_above-above.result - 1) c.index.result.now) c.self.view_is)

pub returns-clause-within : goal.returns-clause-within
returns-clause-within c =
    let is : c.index.result.now.1 ≡ target c.args.self.now c.args.key.now =
    target_is c.deref.result.now c.args.self.now c.bytes.result.now c.args.key.now c.first_above-above.result c.index.result.now (c.deref.ensures.value ∙ c.self.view_is) c.bytes.ensures.bytes c.first_above-above.ensures (c.index.ensures ∙ ap (λ A. get_or A (c.first_above-above.result - 1) c.index.result.now) c.self.view_is) in
    let h = in_target c.args.self.now (subst AreAnchors c.self.view_is c.self.invariant.0) c.args.key.now in
    (h.0, ap (span c.args.self.now) is ∙ h.1, h.2)

pub returns-clause-only : goal.returns-clause-only
returns-clause-only c =
    let is : c.index.result.now.1 ≡ target c.args.self.now c.args.key.now =
    target_is c.deref.result.now c.args.self.now c.bytes.result.now c.args.key.now c.first_above-above.result c.index.result.now (c.deref.ensures.value ∙ c.self.view_is) c.bytes.ensures.bytes c.first_above-above.ensures (c.index.ensures ∙ ap (λ A. get_or A (c.first_above-above.result - 1) c.index.result.now) c.self.view_is) in
    λ leaf s e has. only_target c.args.self.now (subst AreAnchors c.self.view_is c.self.invariant.0) c.args.key.now leaf s e has ∙ sym is
