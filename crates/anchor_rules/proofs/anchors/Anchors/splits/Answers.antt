use Rattle.std.proofs.Common.{◌≡◌, ◌+◌, Some, None, true, false, not, ◌&&◌, is_some, sym, ap, ◌∙◌, subst, drop, ℕ, Option}
use Rattle.anchor_rules.specs.Anchors.{AreAnchors, anchor_at, next_anchor, cuts, span, has_leaf}
use Rattle.anchor_rules.specs.Places.{place_in}
use Rattle.anchor_rules.proofs.Found.{span_found, place_some, splits_unknown}
use Rattle.anchor_rules.proofs.anchors.Anchors.splits.Goals as goal

pub returns-then-is_some : goal.returns-then-is_some
returns-then-is_some c =
    let e : c.deref.result.now ≡ c.args.self.now = c.deref.ensures.value ∙ c.self.view_is in
    let there : has_leaf c.args.self.now c.args.new_leaf ≡ true = sym (place_some c.args.self.now c.args.new_leaf) ∙ (ap (λ A. is_some (place_in A c.args.new_leaf)) (sym e) ∙ (ap (λ (o : Option ℕ). is_some o) (sym c.place_of.ensures.place) ∙ (sym c.is_some.ensures ∙ c.if-is_some.true))) in
    sym (ap (λ t. not t && cuts (span c.args.self.now c.args.leaf) c.args.anchor.now) there)

pub returns-in-Some : goal.returns-in-Some
returns-in-Some c =
    let e : c.deref.result.now ≡ c.args.self.now = c.deref.ensures.value ∙ c.self.view_is in
    let f : c.deref-2.result.now ≡ c.args.self.now = c.deref-2.ensures.value ∙ c.self.view_is in
    let g : c.deref-in-Some.result.now ≡ c.args.self.now = c.deref-in-Some.ensures.value ∙ c.self.view_is in
    let away : has_leaf c.args.self.now c.args.new_leaf ≡ false = sym (place_some c.args.self.now c.args.new_leaf) ∙ (ap (λ A. is_some (place_in A c.args.new_leaf)) (sym e) ∙ (ap (λ (o : Option ℕ). is_some o) (sym c.place_of.ensures.place) ∙ (sym c.is_some.ensures ∙ c.if-is_some.false))) in
    let found : place_in c.args.self.now c.args.leaf ≡ Some c.in-Some.i = ap (λ A. place_in A c.args.leaf) (sym f) ∙ (sym c.place_of-2.ensures.place ∙ c.in-Some.is) in
    let is = span_found c.args.self.now c.args.leaf c.in-Some.i (subst AreAnchors c.self.view_is c.self.invariant.0) found in
    c.cuts.ensures ∙ (ap (λ A. cuts (Some (anchor_at A c.in-Some.i, next_anchor (drop (c.in-Some.i + 1) A))) c.bytes.result.now) g
    ∙ (ap (λ s. cuts s c.bytes.result.now) (sym is) ∙ (ap (cuts (span c.args.self.now c.args.leaf)) c.bytes.ensures.bytes
    ∙ sym (ap (λ t. not t && cuts (span c.args.self.now c.args.leaf) c.args.anchor.now) away))))

pub returns-in-None : goal.returns-in-None
returns-in-None c =
    let f : c.deref-2.result.now ≡ c.args.self.now = c.deref-2.ensures.value ∙ c.self.view_is in
    let none : place_in c.args.self.now c.args.leaf ≡ None = ap (λ A. place_in A c.args.leaf) (sym f) ∙ (sym c.place_of-2.ensures.place ∙ c.in-None.is) in
    sym (splits_unknown c.args.self.now c.args.leaf c.args.anchor.now c.args.new_leaf none)
