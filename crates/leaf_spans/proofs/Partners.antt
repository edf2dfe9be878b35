-- What the counts of a leaf and of its neighbours decide about it.
use Rattle.std.proofs.Common.{ℕ, ◌+◌, ◌<◌, ◌≤◌, Option, Some, None, inl, inr, refl, sym, ◌∙◌, subst, arith, true≢false}
use Rattle.std.specs.Option.{option_map}
use Rattle.anchor_rules.specs.Anchors.{Anchors, Rises}
use Rattle.anchor_rules.specs.Neighbours.{IsBefore, IsBehind}
use Rattle.anchor_rules.proofs.Neighbours.{only_before, only_behind}
use Rattle.leaf_spans.specs.Tending.{CanMerge, AreMergeable, IsLetBe, IsWish, WillDo, IsPartner}
use Rattle.leaf_spans.specs.declared.decisions.Side.TheVariants.{Left, Right}
use Rattle.leaf_spans.specs.declared.decisions.Wanted.TheVariants.{Merge, Nothing}

module _ (A : Anchors) (rises : Rises A) (size : ℕ → ℕ) (merge_sum leaf : ℕ) where
  -- where the neighbour won't do, no leaf on that side will
  pub no_right : (right : Option ℕ) → IsBehind A leaf right → (WillDo (size leaf) merge_sum (option_map size right) → ⊥) → (other : ℕ) → CanMerge A size merge_sum leaf other → ⊥
  no_right None none large other can = absurd (true≢false (sym can.beside ∙ none other))
  no_right (Some right) next large other can = large (subst (λ i. size leaf + size i ≤ merge_sum) (only_behind A leaf other right rises can.beside next) can.small)

  pub no_left : (left : Option ℕ) → IsBefore A leaf left → (WillDo (size leaf) merge_sum (option_map size left) → ⊥) → (other : ℕ) → CanMerge A size merge_sum other leaf → ⊥
  no_left None none large other can = absurd (true≢false (sym can.beside ∙ none other))
  no_left (Some left) next large other can =
      large (subst (λ i. size leaf + size i ≤ merge_sum) (only_before A leaf other left rises can.beside next) (let small = can.small in omega arith))

  pub none_mergeable : ((other : ℕ) → CanMerge A size merge_sum leaf other → ⊥) → ((other : ℕ) → CanMerge A size merge_sum other leaf → ⊥) → (left right : ℕ) → AreMergeable A size merge_sum leaf left right → ⊥
  none_mergeable no_right no_left l r pair = elim pair [
    | inl p ↦ no_right r (subst (λ (i : ℕ). CanMerge A size merge_sum i r) p.0 p.1)
    | inr p ↦ no_left l (subst (λ (i : ℕ). CanMerge A size merge_sum l i) p.0 p.2)
  ]

  -- the neighbours that are named are those that are to be merged
  pub partner_right : (left : Option ℕ) (right : ℕ) → IsBehind A leaf (Some right) → IsPartner (size leaf) merge_sum left (Some (size right)) (Some Right) → AreMergeable A size merge_sum leaf leaf right
  partner_right left right next few = inl (refl, record { beside = next; small = few })

  pub partner_left : (left : ℕ) (right : Option ℕ) → IsBefore A leaf (Some left) → IsBehind A leaf right → IsPartner (size leaf) merge_sum (Some (size left)) (option_map size right) (Some Left) → AreMergeable A size merge_sum leaf left leaf
  partner_left left right next behind chosen =
      let few : size leaf + size left ≤ merge_sum = chosen.1 in
      inr (refl, no_right right behind chosen.0, record { beside = next; small = omega arith })

  pub partner_none : (left right : Option ℕ) → IsBefore A leaf left → IsBehind A leaf right → IsPartner (size leaf) merge_sum (option_map size left) (option_map size right) None → (l r : ℕ) → AreMergeable A size merge_sum leaf l r → ⊥
  partner_none left right before behind chosen = none_mergeable (no_right right behind chosen.0) (no_left left before chosen.1)

  -- a leaf with too many keys for a merge has no partner
  pub too_many : merge_sum < size leaf → (l r : ℕ) → AreMergeable A size merge_sum leaf l r → ⊥
  too_many many = none_mergeable (λ other can. let small = can.small in absurd (omega arith)) (λ other can. let small = can.small in absurd (omega arith))

  pub let_be : (soft : ℕ) → IsWish (size leaf) soft merge_sum Nothing → IsLetBe A size soft merge_sum leaf
  let_be soft wish = record { not_large = wish.0; alone = too_many wish.1 }

  pub let_alone : (soft : ℕ) (left right : Option ℕ) → IsWish (size leaf) soft merge_sum Merge → IsBefore A leaf left → IsBehind A leaf right → IsPartner (size leaf) merge_sum (option_map size left) (option_map size right) None → IsLetBe A size soft merge_sum leaf
  let_alone soft left right wish before behind chosen = record { not_large = wish.0; alone = partner_none left right before behind chosen }
