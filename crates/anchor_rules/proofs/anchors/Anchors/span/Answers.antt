use Rattle.std.proofs.Common.{◌≡◌, ◌+◌, Some, None, is_some, sym, ap, ◌∙◌, subst, drop, get_or, true≢false, ℕ, Option}
use Rattle.std.specs.Option.{option_copied}
use Rattle.anchor_rules.specs.Anchors.{AreAnchors, anchor_at, next_anchor}
use Rattle.anchor_rules.specs.Places.{place_in}
use Rattle.anchor_rules.proofs.Found.{span_found, place_at, place_some, pair_at}
use Rattle.anchor_rules.proofs.anchors.Anchors.span.Goals as goal

pub unreachable-requires : goal.unreachable-requires
unreachable-requires c =
    let e : c.deref.result.now ≡ c.args.self.now = c.deref.ensures.value ∙ c.self.view_is in
    let none : place_in c.args.self.now c.args.leaf ≡ None = ap (λ A. place_in A c.args.leaf) (sym e) ∙ (sym c.place_of.ensures.place ∙ c.in-None.is) in
    true≢false (sym c.requires ∙ (sym (place_some c.args.self.now c.args.leaf) ∙ ap (λ (o : Option ℕ). is_some o) none))

pub returns : goal.returns
returns c =
    let e : c.deref.result.now ≡ c.args.self.now = c.deref.ensures.value ∙ c.self.view_is in
    let f : c.deref-in-Some.result.now ≡ c.args.self.now = c.deref-in-Some.ensures.value ∙ c.self.view_is in
    let found : place_in c.args.self.now c.args.leaf ≡ Some c.in-Some.i = ap (λ A. place_in A c.args.leaf) (sym e) ∙ (sym c.place_of.ensures.place ∙ c.in-Some.is) in
    let at = place_at c.args.self.now c.args.leaf c.in-Some.i found in
    let here = pair_at c.args.self.now c.in-Some.i c.index.result.now at.0 (c.index.ensures ∙ ap (λ A. get_or A c.in-Some.i c.index.result.now) c.self.view_is) in
    let anchor : c.get.result.now ≡ anchor_at c.args.self.now c.in-Some.i = c.get.ensures ∙ here.0 in
    let next : option_copied c.next_anchor.result ≡ next_anchor (drop (c.in-Some.i + 1) c.args.self.now) = c.next_anchor.ensures ∙ ap (λ A. next_anchor (drop (c.in-Some.i + 1) A)) f in
    span_found c.args.self.now c.args.leaf c.in-Some.i (subst AreAnchors c.self.view_is c.self.invariant.0) found
    ∙ (ap (λ a. Some (a, next_anchor (drop (c.in-Some.i + 1) c.args.self.now))) (sym anchor) ∙ ap (λ n. Some (c.get.result.now, n)) (sym next))
