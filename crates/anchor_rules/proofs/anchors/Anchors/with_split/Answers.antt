use Rattle.std.proofs.Common.{◌≡◌, ◌+◌, Some, None, sym, ap, ◌∙◌, subst, true≢false, rules}
use Rattle.std.specs.Prelude.{insert}
use Rattle.anchor_rules.specs.Anchors.{AreAnchors, AreShort, with_split}
use Rattle.anchor_rules.specs.Places.{place_in}
use Rattle.anchor_rules.proofs.Found.{split_found, split_keeps, split_short, splits_unknown}
use Rattle.anchor_rules.proofs.anchors.Anchors.with_split.Goals as goal

pub unreachable-requires : goal.unreachable-requires
unreachable-requires c =
    let e : c.deref.result.now ≡ c.args.self.now = c.deref.ensures.value ∙ c.self.view_is in
    let none : place_in c.args.self.now c.args.leaf ≡ None = ap (λ A. place_in A c.args.leaf) (sym e) ∙ (sym c.place_of.ensures.place ∙ c.in-None.is) in
    true≢false (sym c.requires ∙ splits_unknown c.args.self.now c.args.leaf c.args.anchor c.args.new_leaf none)

pub invariant_of-self : goal.invariant_of-self
invariant_of-self c =
    let e : c.deref.result.now ≡ c.args.self.now = c.deref.ensures.value ∙ c.self.view_is in
    let found : place_in c.args.self.now c.args.leaf ≡ Some c.in-Some.i = ap (λ A. place_in A c.args.leaf) (sym e) ∙ (sym c.place_of.ensures.place ∙ c.in-Some.is) in
    let copied : c.in_ok-copied-in-Some.copied ≡ c.args.anchor = search rules in
    let is : c.insert.new.self.items ≡ with_split c.args.self.now c.args.leaf c.args.anchor c.args.new_leaf = c.in_ok-insert-in-Some.ensures.items ∙ (ap (λ b. insert c.self.inside.rows.items (c.in-Some.i + 1) (b, c.args.new_leaf)) copied ∙ (ap (λ A. insert A (c.in-Some.i + 1) (c.args.anchor, c.args.new_leaf)) c.self.view_is ∙ sym (split_found c.args.self.now c.args.leaf c.in-Some.i c.args.anchor c.args.new_leaf (subst AreAnchors c.self.view_is c.self.invariant.0) found))) in
    (subst AreAnchors (sym is) (split_keeps c.args.self.now c.args.leaf c.args.anchor c.args.new_leaf (subst AreAnchors c.self.view_is c.self.invariant.0) c.requires), subst AreShort (sym is) (split_short c.args.self.now c.args.leaf c.args.anchor c.args.new_leaf (subst AreShort c.self.view_is c.self.invariant.1) c.bytes.ensures.key.1))

pub returns-clause-split : goal.returns-clause-split
returns-clause-split c =
    let e : c.deref.result.now ≡ c.args.self.now = c.deref.ensures.value ∙ c.self.view_is in
    let found : place_in c.args.self.now c.args.leaf ≡ Some c.in-Some.i = ap (λ A. place_in A c.args.leaf) (sym e) ∙ (sym c.place_of.ensures.place ∙ c.in-Some.is) in
    let copied : c.in_ok-copied-in-Some.copied ≡ c.args.anchor = search rules in
    c.in_ok-insert-in-Some.ensures.items ∙ (ap (λ b. insert c.self.inside.rows.items (c.in-Some.i + 1) (b, c.args.new_leaf)) copied ∙ (ap (λ A. insert A (c.in-Some.i + 1) (c.args.anchor, c.args.new_leaf)) c.self.view_is ∙ sym (split_found c.args.self.now c.args.leaf c.in-Some.i c.args.anchor c.args.new_leaf (subst AreAnchors c.self.view_is c.self.invariant.0) found)))
