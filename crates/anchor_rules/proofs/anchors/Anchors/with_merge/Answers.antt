use Rattle.std.proofs.Common.{◌≡◌, ◌+◌, ◌<◌, Some, None, length, sym, ap, ◌∙◌, subst, arith, true≢false}
use Rattle.std.specs.Prelude.{remove}
use Rattle.anchor_rules.specs.Anchors.{AreAnchors, AreShort, with_merge}
use Rattle.anchor_rules.specs.Places.{place_in}
use Rattle.anchor_rules.proofs.Found.{adjacent_unknown, merge_within, merge_found, merge_keeps, merge_short}
use Rattle.anchor_rules.proofs.anchors.Anchors.with_merge.Goals as goal

pub take_row-requires : goal.take_row-requires
take_row-requires c =
    let e : c.deref.result.now ≡ c.args.self.now = c.deref.ensures.value ∙ c.self.view_is in
    let found : place_in c.args.self.now c.args.left ≡ Some c.in-Some.i = ap (λ A. place_in A c.args.left) (sym e) ∙ (sym c.place_of.ensures.place ∙ c.in-Some.is) in
    let within : c.in-Some.i + 1 < length c.args.self.now = merge_within c.args.self.now c.args.left c.args.right c.in-Some.i (subst AreAnchors c.self.view_is c.self.invariant.0) c.requires found in
    let same : length c.deref.result.now ≡ length c.args.self.now = ap length e in
    omega (arith, c.deref.ensures.len)

pub unreachable-requires : goal.unreachable-requires
unreachable-requires c =
    let e : c.deref.result.now ≡ c.args.self.now = c.deref.ensures.value ∙ c.self.view_is in
    let none : place_in c.args.self.now c.args.left ≡ None = ap (λ A. place_in A c.args.left) (sym e) ∙ (sym c.place_of.ensures.place ∙ c.in-None.is) in
    true≢false (sym c.requires ∙ adjacent_unknown c.args.self.now c.args.left c.args.right none)

pub invariant_of-self : goal.invariant_of-self
invariant_of-self c =
    let e : c.deref.result.now ≡ c.args.self.now = c.deref.ensures.value ∙ c.self.view_is in
    let found : place_in c.args.self.now c.args.left ≡ Some c.in-Some.i = ap (λ A. place_in A c.args.left) (sym e) ∙ (sym c.place_of.ensures.place ∙ c.in-Some.is) in
    let are = subst AreAnchors c.self.view_is c.self.invariant.0 in
    let is : c.take_row.new.rows.items ≡ with_merge c.args.self.now c.args.right = c.take_row.ensures.items ∙ (ap (λ A. remove A (c.in-Some.i + 1)) c.self.view_is ∙ sym (merge_found c.args.self.now c.args.left c.args.right c.in-Some.i are c.requires found)) in
    (subst AreAnchors (sym is) (merge_keeps c.args.self.now c.args.left c.args.right are c.requires), subst AreShort (sym is) (merge_short c.args.self.now c.args.left c.args.right are c.requires (subst AreShort c.self.view_is c.self.invariant.1)))

pub returns : goal.returns
returns c =
    let e : c.deref.result.now ≡ c.args.self.now = c.deref.ensures.value ∙ c.self.view_is in
    let found : place_in c.args.self.now c.args.left ≡ Some c.in-Some.i = ap (λ A. place_in A c.args.left) (sym e) ∙ (sym c.place_of.ensures.place ∙ c.in-Some.is) in
    c.take_row.ensures.items ∙ (ap (λ A. remove A (c.in-Some.i + 1)) c.self.view_is ∙ sym (merge_found c.args.self.now c.args.left c.args.right c.in-Some.i (subst AreAnchors c.self.view_is c.self.invariant.0) c.requires found))
