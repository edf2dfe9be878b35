-- The cases in which a search by the longest prefix ends, one by one.
use Rattle.std.proofs.Common.{◌≡◌, ℕ, zero, suc, List, [], ◌∷◌, ◌++◌, take, drop, Bool, true, false, cond, Some, None, refl, sym, ap, ◌∙◌}
use Rattle.anchor_rules.specs.Anchors.{Anchors, AreAnchors, target}
use Rattle.anchor_rules.specs.Items.{Item, IsLongest, item, leaf_before, greatest_below, child_below, end_by, ends_at}
use Rattle.anchor_rules.proofs.Ends.{greatest_some, ends_at-target}
use Rattle.anchor_rules.proofs.ItemParts.{item_is, some_item}

-- no number passes a test that none passes
greatest_of_none : (test : ℕ → Bool) (c : ℕ) → ((d : ℕ) → test d ≡ false) → greatest_below test c ≡ None
greatest_of_none test zero none = refl
greatest_of_none test (suc c) none = ap (λ b. cond b (Some c) (greatest_below test c)) (none c) ∙ greatest_of_none test c none

module _ (A : Anchors) (key : List ℕ) (n : ℕ) (it : Item) (are : AreAnchors A) (longest : IsLongest A key n it) where
  ended : (rest : List ℕ) → drop n key ≡ rest → target A key ≡ end_by A (take n key) it (child_below it rest)
  ended rest e = sym (ends_at-target A key n it are longest) ∙ ap (λ l. ends_at A (take n key) it l) e

  pub ends_whole : drop n key ≡ [] → target A key ≡ cond it.is_anchor it.leftmost (leaf_before A it.leftmost)
  ends_whole e = ended [] e

  -- where no child is below the next byte
  pub ends_above : (byte : ℕ) (rest : List ℕ) → drop n key ≡ byte ∷ rest → greatest_below it.child byte ≡ None → target A key ≡ cond it.is_anchor it.leftmost (leaf_before A it.leftmost)
  ends_above byte rest e none = ended (byte ∷ rest) e ∙ ap (end_by A (take n key) it) none

  pub ends_below : (byte : ℕ) (rest : List ℕ) (c : ℕ) → drop n key ≡ byte ∷ rest → greatest_below it.child byte ≡ Some c → (child : Item) × (item A (take n key ++ c ∷ []) ≡ Some child) × (target A key ≡ child.rightmost)
  ends_below byte rest c e some =
      let is = item_is A (take n key) it longest.known in
      let child = some_item A (take n key ++ c ∷ []) (sym (is.children c) ∙ (greatest_some it.child byte c some).passes) in
      (child.0, child.1, ended (byte ∷ rest) e ∙ (ap (end_by A (take n key) it) some ∙ sym (item_is A (take n key ++ c ∷ []) child.0 child.1).last))

  pub ends_childless : it.is_anchor ≡ true → ((c : ℕ) → it.child c ≡ false) → target A key ≡ it.leftmost
  ends_childless anchor none = by (drop n key) refl ∙ ap (λ b. cond b it.leftmost (leaf_before A it.leftmost)) anchor
    where
      by : (rest : List ℕ) → drop n key ≡ rest → target A key ≡ cond it.is_anchor it.leftmost (leaf_before A it.leftmost)
      by [] e = ends_whole e
      by (byte ∷ rest) e = ends_above byte rest e (greatest_of_none it.child byte none)
