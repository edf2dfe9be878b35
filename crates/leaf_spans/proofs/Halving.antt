-- A leaf that is cut in two: the anchor that parts its keys, and the pairs of both leaves.
use Rattle.std.proofs.Common.{◌≡◌, ◌≢◌, ℕ, ◌-◌, ◌<◌, ◌≤◌, List, length, length-drop, Bool, true, false, not, ◌&&◌, Option, Some, None, ◌⊎◌, inl, inr, refl, sym, ap, ◌∙◌, subst, arith, true≢false}
use mathlib.Core.Logic.{dite}
use native.Mathlib.Decide.{ℕ_discrete}
use Rattle.std.specs.List.{AllByRecursion}
use Rattle.std.proofs.lemmas.List.{length-take-le}
use Rattle.key_bytes.specs.Lengths.{IsKey}
use Rattle.key_bytes.specs.Order.{is_below}
use Rattle.key_bytes.specs.declared.bound.Bound.TheVariants.{Low, At, High}
use Rattle.key_bytes.proofs.Orders.{below_trans, below_behind}
use Rattle.anchor_rules.specs.Anchors.{Anchors, Span, is_before, in_span, span, has_leaf, target, AreAnchors, cuts, splits, with_split}
use Rattle.anchor_rules.proofs.Edits.{split_left, split_right, split_else}
use Rattle.anchor_rules.proofs.Found.{split_keeps}
use Rattle.anchor_rules.proofs.Parts.{Cut, cut}
use Rattle.anchor_rules.proofs.Spans.{in_target, only_target}
use Rattle.map_model.specs.Halves.{key_at, stay_count, lower_half, upper_half, parting}
use Rattle.map_model.specs.Maps.{Pairs, IsMap, keep, between, is_in}
use Rattle.map_model.proofs.Filters.{all_filter, filtered_pass}
use Rattle.map_model.proofs.Finds.{ascending_keep}
use Rattle.map_model.proofs.Halves as halves
use Rattle.map_model.proofs.Halves.{stay_less, key_at-all, parting_above, parting_within, parting_stay, parting_go}
use Rattle.map_model.proofs.Parts.{keep_keep}
use Rattle.leaf_spans.specs.Spread.{Spread, inside, size_in}
use Rattle.leaf_spans.proofs.Ranges.{and_parts}
use Rattle.leaf_spans.proofs.Spreads.{inside_up}

-- what holds of all pairs holds of those in a span
pub all_inside : {V : Type 0} (P : List ℕ × V → Type 0) (m : Pairs V) (o : Option Span) → AllByRecursion P m → AllByRecursion P (inside o m)
all_inside P m None all = tt
all_inside {V} P m (Some s) all = all_filter P (λ (p : List ℕ × V). in_span s p.0) m all

module _ {V : Type 0} (m : Pairs V) (o : Option Span) (up : IsMap m) (many : 1 < length (inside o m)) where
  -- the parting anchor is no longer than the keys are
  pub parting_short : (longest : ℕ) → AllByRecursion (λ (p : List ℕ × V). length p.0 ≤ longest) m → length (parting (inside o m)) ≤ longest
  parting_short longest all = halves.parting_short (inside o m) (inside_up m up o) many longest (all_inside (λ (p : List ℕ × V). length p.0 ≤ longest) m o all)

  -- and it could be a key itself
  pub parting_key : AllByRecursion (λ (p : List ℕ × V). IsKey p.0) m → IsKey (parting (inside o m))
  parting_key all = halves.parting_key (inside o m) (inside_up m up o) many (all_inside (λ (p : List ℕ × V). IsKey p.0) m o all)

-- the parting anchor cuts the leaf's span
pub parting_splits : {V : Type 0} (A : Anchors) (m : Pairs V) (l r : ℕ) → IsMap m → 1 < length (inside (span A l) m) → has_leaf A r ≡ false → splits A l (parting (inside (span A l) m)) r ≡ true
parting_splits {V} A m l r up many dead = ap (λ b. not b && cuts (span A l) (parting (inside (span A l) m))) dead ∙ by (span A l) many
  where
    before : (end : Option (List ℕ)) (a high : List ℕ) → is_below high a ≡ false → is_before end high ≡ true → is_before end a ≡ true
    before None a high within ends = refl
    before (Some end) a high within ends = below_behind a high end within ends

    by : (o : Option Span) → 1 < length (inside o m) → cuts o (parting (inside o m)) ≡ true
    by None some = absurd (omega arith)
    by (Some s) some =
        let pairs = keep (in_span s) m in
        let rises = ascending_keep (in_span s) m up in
        let all = filtered_pass (λ (p : List ℕ × V). in_span s p.0) m in
        let less = stay_less (length pairs) some in
        let low = key_at pairs (stay_count (length pairs) - 1) in
        let high = key_at pairs (stay_count (length pairs)) in
        let low_in : in_span s low ≡ true = key_at-all (λ k. in_span s k ≡ true) pairs (stay_count (length pairs) - 1) (omega (arith, less)) all in
        let high_in : in_span s high ≡ true = key_at-all (λ k. in_span s k ≡ true) pairs (stay_count (length pairs)) less all in
        let above : is_below s.0 (parting pairs) ≡ true = below_behind s.0 low (parting pairs) (and_parts (is_below low s.0) (is_before s.1 low) low_in).0 (parting_above pairs rises some) in
        let ends : is_before s.1 (parting pairs) ≡ true = before s.1 (parting pairs) high (parting_within pairs rises some) (and_parts (is_below high s.0) (is_before s.1 high) high_in).1 in
        ap (λ b. b && is_before s.1 (parting pairs)) above ∙ ends

-- the tests of the two parts, by whether a key is below the leaf's anchor, below the parting one, and before the end
left_test : (f u t : Bool) → (u ≡ true → t ≡ true) → (not f && u) ≡ ((not f && t) && u)
left_test true u t higher = refl
left_test false true t higher = sym (ap (λ b. b && true) (higher refl))
left_test false false true higher = refl
left_test false false false higher = refl

right_test : (f u t : Bool) → (f ≡ true → u ≡ true) → (not u && t) ≡ ((not f && t) && (not u && true))
right_test true true t higher = refl
right_test true false t higher = absurd (true≢false (sym (higher refl)))
right_test false true true higher = refl
right_test false true false higher = refl
right_test false false true higher = refl
right_test false false false higher = refl

before_lower : (end : Option (List ℕ)) (a k : List ℕ) → is_before end a ≡ true → is_below k a ≡ true → is_before end k ≡ true
before_lower None a k before below = refl
before_lower (Some end) a k before below = below_trans k a end below before

-- the parts of a span that is cut
module _ {V : Type 0} (A : Anchors) (m : Pairs V) (up : IsMap m) (l r : ℕ) (a : List ℕ) (c : Cut A l a r) where
  whole : inside (span A l) m ≡ keep (in_span (c.low, c.high)) m
  whole = ap (λ o. inside o m) c.is

  pub cut_left : inside (span (with_split A l a r) l) m ≡ between (inside (span A l) m) Low (At a)
  cut_left = ap (λ o. inside o m) (split_left A l a r c.low c.high c.is)
      ∙ (sym (keep_keep m up (in_span (c.low, c.high)) (is_in Low (At a)) (in_span (c.low, Some a)) (λ k. left_test (is_below k c.low) (is_below k a) (is_before c.high k) (before_lower c.high a k c.before)))
      ∙ ap (λ (p : Pairs V). between p Low (At a)) (sym whole))

  pub cut_right : inside (span (with_split A l a r) r) m ≡ between (inside (span A l) m) (At a) High
  cut_right = ap (λ o. inside o m) (split_right A l a r c.low c.high c.new c.is)
      ∙ (sym (keep_keep m up (in_span (c.low, c.high)) (is_in (At a) High) (in_span (a, c.high)) (λ k. right_test (is_below k c.low) (is_below k a) (is_before c.high k) (λ h. below_trans k c.low a h c.above)))
      ∙ ap (λ (p : Pairs V). between p (At a) High) (sym whole))

-- the pairs and sizes of the leaves after a split at the parting anchor
module _ {V : Type 0} (A : Anchors) (m : Pairs V) (l r : ℕ) (up : IsMap m) (many : 1 < size_in A m l) (dead : has_leaf A r ≡ false) where
  abbrev parted : Anchors
  parted = with_split A l (parting (inside (span A l) m)) r

  cut_here : Cut A l (parting (inside (span A l) m)) r
  cut_here = cut A l (parting (inside (span A l) m)) r (parting_splits A m l r up many dead)

  pub split_stay : inside (span parted l) m ≡ lower_half (inside (span A l) m)
  split_stay = cut_left A m up l r (parting (inside (span A l) m)) cut_here ∙ parting_stay (inside (span A l) m) (inside_up m up (span A l)) many

  pub split_go : inside (span parted r) m ≡ upper_half (inside (span A l) m)
  split_go = cut_right A m up l r (parting (inside (span A l) m)) cut_here ∙ parting_go (inside (span A l) m) (inside_up m up (span A l)) many

  pub split_other : (other : ℕ) → other ≢ l → other ≢ r → inside (span parted other) m ≡ inside (span A other) m
  split_other other nl nr = ap (λ o. inside o m) (split_else A l (parting (inside (span A l) m)) r other nl nr)

  pub stay_size : size_in parted m l ≡ stay_count (size_in A m l)
  stay_size = ap length split_stay ∙ length-take-le (stay_count (size_in A m l)) (inside (span A l) m) (omega arith)

  pub go_size : size_in parted m r ≡ size_in A m l - stay_count (size_in A m l)
  go_size = ap length split_go ∙ length-drop (stay_count (size_in A m l)) (inside (span A l) m)

  pub split_size_other : (other : ℕ) → other ≢ l → other ≢ r → size_in parted m other ≡ size_in A m other
  split_size_other other nl nr = ap length (split_other other nl nr)

-- a leaf gives its upper half to a new one
pub spread_split : {V : Type 0} (A : Anchors) (m : Pairs V) (maps new : ℕ → Pairs V) (l r : ℕ) → Spread A m maps → 1 < length (maps l) → has_leaf A r ≡ false
    → new l ≡ lower_half (maps l) → new r ≡ upper_half (maps l) → ((other : ℕ) → other ≢ l → other ≢ r → new other ≡ maps other)
    → Spread (with_split A l (parting (maps l)) r) m new
spread_split {V} A m maps new l r spread many dead stay go others =
    let is : maps l ≡ inside (span A l) m = spread.parts l in
    let some : 1 < length (inside (span A l) m) = subst (λ (p : Pairs V). 1 < length p) is many in
    let left : new l ≡ inside (span (with_split A l (parting (inside (span A l) m)) r) l) m = stay ∙ (ap (λ (p : Pairs V). lower_half p) is ∙ sym (split_stay A m l r spread.ascends some dead)) in
    let right : new r ≡ inside (span (with_split A l (parting (inside (span A l) m)) r) r) m = go ∙ (ap (λ (p : Pairs V). upper_half p) is ∙ sym (split_go A m l r spread.ascends some dead)) in
    let parts : (i : ℕ) → new i ≡ inside (span (with_split A l (parting (inside (span A l) m)) r) i) m = λ i. dite (ℕ_discrete i l)
    (λ same. subst (λ j. new j ≡ inside (span (with_split A l (parting (inside (span A l) m)) r) j) m) (sym same) left)
    (λ nl. dite (ℕ_discrete i r)
    (λ same. subst (λ j. new j ≡ inside (span (with_split A l (parting (inside (span A l) m)) r) j) m) (sym same) right)
    (λ nr. others i nl nr ∙ (spread.parts i ∙ sym (split_other A m l r spread.ascends some dead i nl nr)))) in
    subst (λ (p : Pairs V). Spread (with_split A l (parting p) r) m new) (sym is) (record { ascends = spread.ascends; parts = parts })

-- a key whose leaf is split is in one of the two halves
pub target_split : (A : Anchors) (left : ℕ) (a : List ℕ) (right : ℕ) (key : List ℕ) → AreAnchors A → splits A left a right ≡ true → target A key ≡ left → (target (with_split A left a right) key ≡ left) ⊎ (target (with_split A left a right) key ≡ right)
target_split A left a right key are can at =
    let new = split_keeps A left a right are can in
    let i : ℕ = target (with_split A left a right) key in
    let s = in_target (with_split A left a right) new key in
    dite (ℕ_discrete i left) (λ e. inl e) (λ not_left. dite (ℕ_discrete i right) (λ e. inr e) (λ not_right.
    absurd (not_left (only_target A are key i s.0 (sym (split_else A left a right i not_left not_right) ∙ s.1) s.2 ∙ at))))

-- and that leaf has fewer keys than there were
pub split_room : {V : Type 0} (A : Anchors) (m : Pairs V) (right : ℕ) (key : List ℕ) → AreAnchors A → IsMap m → 1 < size_in A m (target A key) → has_leaf A right ≡ false
    → size_in (with_split A (target A key) (parting (inside (span A (target A key)) m)) right) m (target (with_split A (target A key) (parting (inside (span A (target A key)) m)) right) key) < size_in A m (target A key)
split_room A m right key are up many dead =
    let l : ℕ = target A key in
    let B : Anchors = with_split A l (parting (inside (span A l) m)) right in
    let left = stay_size A m l right up many dead in
    let went = go_size A m l right up many dead in
    elim (target_split A l (parting (inside (span A l) m)) right key are (parting_splits A m l right up many dead) refl) [
      | inl e ↦ subst (λ i. size_in B m i < size_in A m l) (sym e) (omega (arith, left, many))
      | inr e ↦ subst (λ i. size_in B m i < size_in A m l) (sym e) (omega (arith, went, many))
    ]
