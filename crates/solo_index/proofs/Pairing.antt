-- Which two leaves are merged for a leaf's sake.
use Rattle.std.proofs.Common.{◌≡◌, ℕ, ◌+◌, ◌≤◌, List, Bool, true, Some, None, Option, is_some, sym, ap, ◌∙◌, subst, arith, inl, inr}
use Rattle.std.specs.Prelude.{MatchOption}
use Rattle.std.specs.Option.{option_map}
use Rattle.anchor_rules.specs.Anchors.{Anchors, Rises, has_leaf, target}
use Rattle.anchor_rules.specs.Neighbours.{IsBefore, IsBehind}
use Rattle.anchor_rules.proofs.Neighbours.{before_live, behind_live}
use Rattle.leaf_spans.specs.Tending.{AreMergeable, IsPartner}
use Rattle.leaf_spans.specs.declared.decisions.Side.{Side}
use Rattle.leaf_spans.specs.declared.decisions.Side.TheVariants.{Left, Right}
use Rattle.leaf_spans.proofs.Partners.{partner_right, partner_left, partner_none}
use Rattle.map_model.specs.Maps.{find, without}
use Rattle.leaf_table.specs.Facts.{IsWhole}
use Rattle.leaf_table.specs.Table.{Table, size_at}
use Rattle.solo_index.specs.Tending.{IsPair, TendsTaken, IsTaken, pair_on}
use Rattle.solo_index.specs.declared.tending.Tended.{Tended}

-- neighbours are live
pub before_all : (A : Anchors) (leaf : ℕ) (left : Option ℕ) → Rises A → IsBefore A leaf left → MatchOption left (Unit {0}) (λ l. has_leaf A l ≡ true)
before_all A leaf None rises before = tt
before_all A leaf (Some l) rises before = before_live A leaf (Some l) l rises before (refl_of l)
  where
    refl_of : (l : ℕ) → Some l ≡ Some l
    refl_of l = cc

pub behind_all : (A : Anchors) (leaf : ℕ) (right : Option ℕ) → Rises A → IsBehind A leaf right → MatchOption right (Unit {0}) (λ r. has_leaf A r ≡ true)
behind_all A leaf None rises behind = tt
behind_all A leaf (Some r) rises behind = behind_live A leaf (Some r) r rises behind (refl_of r)
  where
    refl_of : (r : ℕ) → Some r ≡ Some r
    refl_of r = cc

module _ (A : Anchors) (rises : Rises A) (size : ℕ → ℕ) (merge_sum leaf : ℕ) where
  by_side : (left right : Option ℕ) (side : Option Side) → IsBefore A leaf left → IsBehind A leaf right → IsPartner (size leaf) merge_sum (option_map size left) (option_map size right) side
      → MatchOption (pair_on leaf left right side) ((l r : ℕ) → AreMergeable A size merge_sum leaf l r → ⊥) (λ p. AreMergeable A size merge_sum leaf p.0 p.1)
  by_side left right None before behind chosen = partner_none A rises size merge_sum leaf left right before behind chosen
  by_side left (Some right) (Some Right) before behind chosen = partner_right A rises size merge_sum leaf (option_map size left) right behind chosen
  by_side left None (Some Right) before behind chosen = absurd chosen
  by_side (Some left) right (Some Left) before behind chosen = partner_left A rises size merge_sum leaf left right before behind chosen
  by_side None right (Some Left) before behind chosen = absurd chosen.1

  small : (left right most : ℕ) → merge_sum ≤ most → AreMergeable A size merge_sum leaf left right → size left + size right ≤ most
  small left right most within pair = elim pair [
    | inl p ↦ let few = p.1.small in omega arith
    | inr p ↦ let few = p.2.small in omega arith
  ]

  few_on : (o : Option (ℕ × ℕ)) (most : ℕ) → merge_sum ≤ most → MatchOption o ((l r : ℕ) → AreMergeable A size merge_sum leaf l r → ⊥) (λ p. AreMergeable A size merge_sum leaf p.0 p.1)
      → MatchOption o (Unit {0}) (λ p. size p.0 + size p.1 ≤ most)
  few_on None most within found = tt
  few_on (Some p) most within found = small p.0 p.1 most within found

-- the pair that the sizes decide, as the code finds it
module _ (t : Table) (leaf : ℕ) (whole : IsWhole t) (left right : Option ℕ) (before : IsBefore t.anchors leaf left) (behind : IsBehind t.anchors leaf right)
    (count sum : ℕ) (near far : Option ℕ) (side : Option Side) (result : Option (ℕ × ℕ))
    (count_is : count ≡ size_at t leaf) (sum_is : sum ≡ t.shape.merge_sum) (near_is : near ≡ option_map (size_at t) left) (far_is : far ≡ option_map (size_at t) right)
    (chosen : IsPartner count sum near far side) (is : result ≡ pair_on leaf left right side) where
  decided : IsPartner (size_at t leaf) t.shape.merge_sum (option_map (size_at t) left) (option_map (size_at t) right) side
  decided = subst (λ (n : ℕ). IsPartner n t.shape.merge_sum (option_map (size_at t) left) (option_map (size_at t) right) side) count_is
      (subst (λ (n : ℕ). IsPartner count n (option_map (size_at t) left) (option_map (size_at t) right) side) sum_is
      (subst (λ (o : Option ℕ). IsPartner count sum o (option_map (size_at t) right) side) near_is (subst (λ (o : Option ℕ). IsPartner count sum near o side) far_is chosen)))

  pub pair_found : MatchOption result ((l r : ℕ) → IsPair t leaf l r → ⊥) (λ p. IsPair t leaf p.0 p.1)
  pair_found = subst (λ (o : Option (ℕ × ℕ)). MatchOption o ((l r : ℕ) → IsPair t leaf l r → ⊥) (λ p. IsPair t leaf p.0 p.1)) (sym is) (by_side t.anchors whole.anchors.rises (size_at t) t.shape.merge_sum leaf left right side before behind decided)

  pub pair_few : MatchOption result (Unit {0}) (λ p. size_at t p.0 + size_at t p.1 ≤ t.shape.hard)
  pair_few = few_on t.anchors whole.anchors.rises (size_at t) t.shape.merge_sum leaf result t.shape.hard (let a = whole.ranges.merge_sum in let b = whole.ranges.hard in omega arith) pair_found

-- what a del did, as the code does it
pub taken_is : (t same written u : Table) (key : List ℕ) (leaf : ℕ) (gone : Bool) (did : Tended) → same ≡ t → written ≡ record same { map = without same.map key } → leaf ≡ target t.anchors key → gone ≡ is_some (find same.map key) → TendsTaken gone written u leaf did
    → IsTaken t u key (record { gone = gone; tended = did })
taken_is t same written u key leaf gone did still is at found tends =
    let is' : written ≡ record t { map = without t.map key } = is ∙ ap (λ (x : Table). record x { map = without x.map key }) still in
    let anchors : written.anchors ≡ t.anchors = ap (λ (x : Table). x.anchors) is' in
    let leaf_is : leaf ≡ target written.anchors key = at ∙ ap (λ (A : Anchors). target A key) (sym anchors) in
    record {
      was_there = found ∙ ap (λ (x : Table). is_some (find x.map key)) still;
      written = written;
      writes = record { shape = ap (λ (x : Table). x.shape) is'; anchors = anchors; now = ap (λ (x : Table). x.map) is' };
      tends = subst (λ (i : ℕ). TendsTaken gone written u i did) leaf_is tends;
    }
