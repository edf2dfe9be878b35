use Rattle.std.proofs.Common.{◌≡◌, ℕ, List, [], ◌∷◌, ◌++◌, drop, Some, sym, ap, ◌∙◌, subst, arith}
use Rattle.key_bytes.specs.Fnv.{fnv_step, prefix_hash}
use Rattle.key_bytes.proofs.Hashes.{prefix_hash-push}
use Rattle.anchor_rules.specs.Anchors.{span}
use Rattle.anchor_rules.specs.Items.{item, child_below, under, last_leaf, leaf_before}
use Rattle.row_words.specs.declared.rows.ItemRow.{ItemRow}
use Rattle.prefix_search.specs.Search.{IsLongestOf}
use Rattle.prefix_search.proofs.Children.{child_prefix, ends_in_child, ends_at_anchor, ends_before}
use Rattle.prefix_search.proofs.Tables.{inner_anchor}
use Rattle.prefix_search.proofs.locates.leaf_from.Goals as goal

-- the hash of a prefix and one byte more, in whichever list the prefix stands
pushed : (salt hash further byte : ℕ) (p q : List ℕ) → hash ≡ prefix_hash salt p → further ≡ fnv_step hash byte → q ≡ p → further ≡ prefix_hash salt (q ++ byte ∷ [])
pushed salt hash further byte p q h f e = f ∙ (ap (λ (n : ℕ). fnv_step n byte) h ∙ (sym (prefix_hash-push salt p byte) ∙ ap (λ (l : List ℕ). prefix_hash salt (l ++ byte ∷ [])) (sym e)))

pub last_of_child-requires-clause-hash : goal.last_of_child-requires-clause-hash
last_of_child-requires-clause-hash g c = rw c.item-item.ensures.shape (pushed _ _ _ c.in-Some.byte _ _ c.requires.hash c.step-hash.ensures c.split_at.ensures.front)

pub last_of_child-requires-clause-child : goal.last_of_child-requires-clause-child
last_of_child-requires-clause-child g c = rw (c.item-item.ensures.shape, c.item-item.ensures.words) (λ A s.
    let w = subst (IsLongestOf A c.args.key.now c.args.reached.now.len) (sym c.item-item.ensures.value) (c.requires.longest A s) in
    child_prefix A c.split_at.result.0.now c.split_at.result.1.now w.0 c.in-Some.byte (ap (item A) c.split_at.ensures.front ∙ w.1.known) (sym (c.in-Some.ensures w.0 w.2)))

pub before_leaf-requires-clause-leaf : goal.before_leaf-requires-clause-leaf
before_leaf-requires-clause-leaf g c = rw (c.item-item.ensures.shape, c.item-item.ensures.words) (λ A s.
    let w = subst (IsLongestOf A c.args.key.now c.args.reached.now.len) (sym c.item-item.ensures.value) (c.requires.longest A s) in
    let r = inner_anchor A _ w.0 s.anchors w.1.known (sym w.2.anchor ∙ c.if-item.false) in
    (r.0, ap (span A) w.2.first ∙ r.1, r.2))

pub returns-in-Some-clause-leaf : goal.returns-in-Some-clause-leaf
returns-in-Some-clause-leaf g c = λ A s.
    let key : List ℕ = c.args.key.now in
    let len : ℕ = c.args.reached.now.len in
    let w = subst (IsLongestOf A key len) (sym c.item-item.ensures.value) (c.requires.longest A s) in
    let leaf = rw (c.item-item.ensures.shape, c.item-item.ensures.words) at c.last_of_child.ensures.leaf in
    let child : child_below w.0 (drop len key) ≡ Some c.in-Some.byte = ap (child_below w.0) (sym c.split_at.ensures.back) ∙ sym (c.in-Some.ensures w.0 w.2) in
    leaf A s ∙ (ap (λ (p : List ℕ). last_leaf (under A (p ++ c.in-Some.byte ∷ []))) c.split_at.ensures.front ∙ ends_in_child A key len w.0 c.in-Some.byte s.anchors w.1 child)

pub returns-in-Some-clause-cost : goal.returns-in-Some-clause-cost
returns-in-Some-clause-cost g c = λ A s most fits.
    let cost = rw (c.item-item.ensures.shape, c.item-item.ensures.words) at c.last_of_child.ensures.cost in
    omega (arith, cost A s most fits, c.item-item.ensures.steps)

pub returns-then-item-clause-leaf : goal.returns-then-item-clause-leaf
returns-then-item-clause-leaf g c = λ A s.
    let key : List ℕ = c.args.key.now in
    let len : ℕ = c.args.reached.now.len in
    let w = subst (IsLongestOf A key len) (sym c.item-item.ensures.value) (c.requires.longest A s) in
    w.2.first ∙ ends_at_anchor A key len w.0 s.anchors w.1 (ap (child_below w.0) (sym c.split_at.ensures.back) ∙ sym (c.in-None.ensures w.0 w.2)) (sym w.2.anchor ∙ c.if-item.true)

pub returns-else-item-clause-leaf : goal.returns-else-item-clause-leaf
returns-else-item-clause-leaf g c = λ A s.
    let key : List ℕ = c.args.key.now in
    let len : ℕ = c.args.reached.now.len in
    let w = subst (IsLongestOf A key len) (sym c.item-item.ensures.value) (c.requires.longest A s) in
    let leaf = rw (c.item-item.ensures.shape, c.item-item.ensures.words) at c.before_leaf.ensures.leaf in
    leaf A s ∙ (ap (leaf_before A) w.2.first ∙ ends_before A key len w.0 s.anchors w.1 (ap (child_below w.0) (sym c.split_at.ensures.back) ∙ sym (c.in-None.ensures w.0 w.2)) (sym w.2.anchor ∙ c.if-item.false))

pub returns-in-Some-clause-stays : goal.returns-in-Some-clause-stays
returns-in-Some-clause-stays g c = g.met.R.Rows.stays_trans _ _ _ c.item-item.ensures.stays c.last_of_child.ensures.stays

pub returns-else-item-clause-stays : goal.returns-else-item-clause-stays
returns-else-item-clause-stays g c = g.met.R.Rows.stays_trans _ _ _ c.item-item.ensures.stays c.before_leaf.ensures.stays
