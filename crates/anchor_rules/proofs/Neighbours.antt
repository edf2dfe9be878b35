-- The leaves on both sides of one: there is at most one on each side, and it is live.
use Rattle.std.proofs.Common.{◌≡◌, ◌≢◌, ℕ, List, [], ◌∷◌, Bool, true, false, eqb, ◌&&◌, ◌||◌, is_some, Option, Some, None, refl, sym, ap, ◌∙◌, subst, eq-eqb, ne_eqb}
use Rattle.anchor_rules.specs.Anchors.{Anchors, Span, span, has_leaf, Rises, adjacent}
use Rattle.anchor_rules.specs.Items.{leaf_before, leaf_after}
use Rattle.anchor_rules.specs.Neighbours.{IsBefore, IsBehind}
use Rattle.anchor_rules.proofs.Ends.{leaf_before_at}
use Rattle.anchor_rules.proofs.ItemChanges.{leaf_after_at}
use Rattle.anchor_rules.proofs.Parts.{meet, beside, none_later}
use Rattle.anchor_rules.proofs.Spans.{span_later}

module _ (A : Anchors) (left right : ℕ) (rises : Rises A) (next : adjacent A left right ≡ true) where
  pub adjacent_apart : left ≢ right
  adjacent_apart = (meet A left right rises next).apart

  pub adjacent_live : (has_leaf A left ≡ true) × (has_leaf A right ≡ true)
  adjacent_live = let t = meet A left right rises next in (ap (λ (o : Option Span). is_some o) t.left, ap (λ (o : Option Span). is_some o) t.right)

  pub adjacent_before : leaf_before A right ≡ left
  adjacent_before =
      let w = beside A left right rises next in
      ap (λ (l : Anchors). leaf_before l right) w.whole ∙ leaf_before_at w.front (w.left, left) w.right right w.back (subst Rises w.whole rises)

  pub adjacent_after : leaf_after A left ≡ right
  adjacent_after =
      let w = beside A left right rises next in
      ap (λ (l : Anchors). leaf_after l left) w.whole ∙ leaf_after_at w.front w.left left ((w.right, right) ∷ w.back) (subst Rises w.whole rises)

-- only one leaf is just before another, and only one just behind
pub only_before : (A : Anchors) (leaf i j : ℕ) → Rises A → adjacent A i leaf ≡ true → adjacent A j leaf ≡ true → i ≡ j
only_before A leaf i j rises e f = sym (adjacent_before A i leaf rises e) ∙ adjacent_before A j leaf rises f

pub only_behind : (A : Anchors) (leaf i j : ℕ) → Rises A → adjacent A leaf i ≡ true → adjacent A leaf j ≡ true → i ≡ j
only_behind A leaf i j rises e f = sym (adjacent_after A leaf i rises e) ∙ adjacent_after A leaf j rises f

-- the leaf on a side is live
pub before_live : (A : Anchors) (leaf : ℕ) (left : Option ℕ) (l : ℕ) → Rises A → IsBefore A leaf left → left ≡ Some l → has_leaf A l ≡ true
before_live A leaf left l rises before is = (adjacent_live A l leaf rises (subst (λ (o : Option ℕ). IsBefore A leaf o) is before)).0

pub behind_live : (A : Anchors) (leaf : ℕ) (right : Option ℕ) (r : ℕ) → Rises A → IsBehind A leaf right → right ≡ Some r → has_leaf A r ≡ true
behind_live A leaf right r rises behind is = (adjacent_live A leaf r rises (subst (λ (o : Option ℕ). IsBehind A leaf o) is behind)).1

-- a leaf that isn't the first anchor's is live behind it
pub live_later : (x : List ℕ × ℕ) (xs : Anchors) (leaf : ℕ) → x.1 ≢ leaf → has_leaf (x ∷ xs) leaf ≡ true → has_leaf xs leaf ≡ true
live_later x xs leaf ne has = sym (ap (λ (o : Option Span). is_some o) (span_later x xs leaf ne)) ∙ has

-- two leaves at the head of a list, and two behind it
pub adjacent_first : (x y : List ℕ × ℕ) (ys : Anchors) (l r : ℕ) → x.1 ≡ l → y.1 ≡ r → adjacent (x ∷ y ∷ ys) l r ≡ true
adjacent_first x y ys l r e f = ap (λ b. (b && eqb y.1 r) || adjacent (y ∷ ys) l r) (eq-eqb x.1 l e) ∙ ap (λ b. (true && b) || adjacent (y ∷ ys) l r) (eq-eqb y.1 r f)

pub adjacent_later : (x y : List ℕ × ℕ) (ys : Anchors) (l r : ℕ) → x.1 ≢ l → adjacent (x ∷ y ∷ ys) l r ≡ adjacent (y ∷ ys) l r
adjacent_later x y ys l r ne = ap (λ b. (b && eqb y.1 r) || adjacent (y ∷ ys) l r) (ne_eqb x.1 l ne)

-- no leaf is just before the first one
pub first_alone : (x : List ℕ × ℕ) (xs : Anchors) (leaf other : ℕ) → span xs leaf ≡ None → adjacent (x ∷ xs) other leaf ≡ false
first_alone x [] leaf other none = refl
first_alone x (y ∷ ys) leaf other none =
    let h = none_later y ys leaf none in
    ap (λ b. (eqb x.1 other && b) || adjacent (y ∷ ys) other leaf) (ne_eqb y.1 leaf h.0) ∙ (nothing (eqb x.1 other) (adjacent (y ∷ ys) other leaf) ∙ first_alone y ys leaf other h.1)
  where
    nothing : (a b : Bool) → ((a && false) || b) ≡ b
    nothing true b = refl
    nothing false b = refl
