-- How many keys leaves have after a change of one key, and all together.
use Rattle.std.proofs.Common.{◌≡◌, ◌≢◌, ℕ, ◌+◌, ◌-◌, ◌<◌, ◌≤◌, List, [], ◌∷◌, ◌++◌, length, length-append, length-drop, cond, is_some, Option, Some, None, IsSome, ◌⊎◌, inl, inr, refl, sym, ap, ◌∙◌, subst, arith}
use mathlib.Core.Logic.{dite}
use native.Mathlib.Decide.{ℕ_discrete}
use Rattle.std.proofs.lemmas.List.{length-take-le}
use Rattle.std.proofs.lemmas.List.Sums.{sum_by-cons}
use Rattle.std.specs.Prelude.{sum}
use Rattle.anchor_rules.specs.Anchors.{Anchors, span, target, AreAnchors}
use Rattle.anchor_rules.specs.Tally.{sizes_of}
use Rattle.map_model.specs.Halves.{stay_count, lower_half, upper_half}
use Rattle.map_model.specs.Maps.{Pairs, IsMap, find, with, without}
use Rattle.map_model.proofs.Lengths.{length_with, length_without}
use Rattle.leaf_spans.specs.Counting.{AreFew}
use Rattle.leaf_spans.specs.Spread.{Spread, inside, joined, size_in}
use Rattle.leaf_spans.proofs.Spreads.{inside_up, inside_find, inside_with, inside_with_other, inside_without, inside_without_other, spread_joined}

module _ {V : Type 0} (A : Anchors) (are : AreAnchors A) (m : Pairs V) (up : IsMap m) (key : List ℕ) where
  -- the leaf of a key that gets a value has one key more, where the key is new
  pub size_with : (value : V) → size_in A (with m key value) (target A key) ≡ cond (is_some (find m key)) (size_in A m (target A key)) (size_in A m (target A key) + 1)
  size_with value =
      ap length (inside_with A are m up key value) ∙ (length_with (inside (span A (target A key)) m) (inside_up m up (span A (target A key))) key value
      ∙ ap (λ o. cond (is_some o) (size_in A m (target A key)) (size_in A m (target A key) + 1)) (inside_find A are m up key))

  pub size_with_other : (value : V) (other : ℕ) → other ≢ target A key → size_in A (with m key value) other ≡ size_in A m other
  size_with_other value other ne = ap length (inside_with_other A are m up key other ne value)

  -- the leaf of a key that goes has one key less, where the key was there
  pub size_without : size_in A (without m key) (target A key) + cond (is_some (find m key)) 1 0 ≡ size_in A m (target A key)
  size_without =
      ap (λ n. n + cond (is_some (find m key)) 1 0) (ap length (inside_without A are m up key))
      ∙ (ap (λ o. length (without (inside (span A (target A key)) m) key) + cond (is_some o) 1 0) (sym (inside_find A are m up key))
      ∙ length_without (inside (span A (target A key)) m) (inside_up m up (span A (target A key))) key)

  pub size_without_other : (other : ℕ) → other ≢ target A key → size_in A (without m key) other ≡ size_in A m other
  size_without_other other ne = ap length (inside_without_other A are m up key other ne)

module _ {V : Type 0} (A : Anchors) (are : AreAnchors A) (m : Pairs V) (maps : ℕ → Pairs V) (spread : Spread A m maps) where
  -- leaves hold the spread of their own pairs together
  pub spread_itself : Spread A (joined A maps) maps
  spread_itself = subst (λ (p : Pairs V). Spread A p maps) (sym (spread_joined A are m maps spread)) spread

  -- the map has as many pairs as the leaves together
  pub spread_length : length m ≡ sum (sizes_of (λ leaf. length (maps leaf)) A)
  spread_length = ap length (sym (spread_joined A are m maps spread)) ∙ total A
    where
      total : (B : Anchors) → length (joined B maps) ≡ sum (sizes_of (λ leaf. length (maps leaf)) B)
      total [] = refl
      total (x ∷ xs) = length-append (maps x.1) (joined xs maps) ∙ (ap (λ n. length (maps x.1) + n) (total xs) ∙ sym (sum_by-cons (λ (n : ℕ). n) (length (maps x.1)) (sizes_of (λ leaf. length (maps leaf)) xs)))

module _ {V : Type 0} (A : Anchors) (m : Pairs V) (maps : ℕ → Pairs V) (spread : Spread A m maps) where
  -- a leaf has as many keys as its span has of the map's
  pub spread_size : (leaf : ℕ) → length (maps leaf) ≡ size_in A m leaf
  spread_size leaf = ap length (spread.parts leaf)

-- no leaf gets too many keys, where the size of one leaf changes
module _ (size new : ℕ → ℕ) (most leaf : ℕ) (few : AreFew size most) (others : (other : ℕ) → other ≢ leaf → new other ≡ size other) where
  pub few_where : new leaf ≤ most → AreFew new most
  few_where here i = dite (ℕ_discrete i leaf)
      (λ same. subst (λ j. new j ≤ most) (sym same) here)
      (λ ne. subst (λ n. n ≤ most) (sym (others i ne)) (few i))

-- and where the sizes of two do
module _ (size new : ℕ → ℕ) (most l r : ℕ) (few : AreFew size most) (others : (other : ℕ) → other ≢ l → other ≢ r → new other ≡ size other) where
  pub few_at_two : new l ≤ most → new r ≤ most → AreFew new most
  few_at_two left right i = dite (ℕ_discrete i l)
      (λ same. subst (λ j. new j ≤ most) (sym same) left)
      (λ nl. dite (ℕ_discrete i r)
      (λ same. subst (λ j. new j ≤ most) (sym same) right)
      (λ nr. subst (λ n. n ≤ most) (sym (others i nl nr)) (few i)))

  pub few_halved : new l ≡ stay_count (size l) → new r ≡ size l - stay_count (size l) → AreFew new most
  few_halved stay go = let all = few l in few_at_two (omega (arith, stay, all)) (omega (arith, go, all))

  pub few_joined : size l + size r ≤ most → new l ≡ size l + size r → new r ≡ 0 → AreFew new most
  few_joined room both none = few_at_two (omega (arith, both, room)) (omega (arith, none))

-- the same of leaves with their pairs
module _ {V : Type 0} (maps new : ℕ → Pairs V) (most leaf : ℕ) (few : AreFew (λ i. length (maps i)) most) (others : (other : ℕ) → other ≢ leaf → new other ≡ maps other) where
  pub few_with : (key : List ℕ) (value : V) → IsMap (maps leaf) → (length (maps leaf) < most) ⊎ IsSome (find (maps leaf) key) → new leaf ≡ with (maps leaf) key value → AreFew (λ i. length (new i)) most
  few_with key value up room change =
      few_where (λ i. length (maps i)) (λ i. length (new i)) most leaf few (λ other ne. ap length (others other ne)) (subst (λ n. n ≤ most) (sym (ap length change ∙ length_with (maps leaf) up key value)) (by (find (maps leaf) key) room))
    where
      by : (o : Option V) → (length (maps leaf) < most) ⊎ IsSome o → cond (is_some o) (length (maps leaf)) (length (maps leaf) + 1) ≤ most
      by (Some v) room = few leaf
      by None (inl less) = omega (arith, less)
      by None (inr some) = absurd (cc (some))

  pub few_without : (key : List ℕ) → IsMap (maps leaf) → new leaf ≡ without (maps leaf) key → AreFew (λ i. length (new i)) most
  few_without key up change =
      let h = length_without (maps leaf) up key in
      let all = few leaf in
      few_where (λ i. length (maps i)) (λ i. length (new i)) most leaf few (λ other ne. ap length (others other ne)) (subst (λ (p : Pairs V). length p ≤ most) (sym change) (omega (arith, h, all)))

module _ {V : Type 0} (maps new : ℕ → Pairs V) (most l r : ℕ) (few : AreFew (λ i. length (maps i)) most) (others : (other : ℕ) → other ≢ l → other ≢ r → new other ≡ maps other) where
  pub few_split : new l ≡ lower_half (maps l) → new r ≡ upper_half (maps l) → AreFew (λ i. length (new i)) most
  few_split stay go = few_halved (λ i. length (maps i)) (λ i. length (new i)) most l r few (λ other nl nr. ap length (others other nl nr))
      (ap length stay ∙ length-take-le (stay_count (length (maps l))) (maps l) (half_less (length (maps l)))) (ap length go ∙ length-drop (stay_count (length (maps l))) (maps l))
    where
      half_less : (n : ℕ) → stay_count n ≤ n
      half_less n = omega arith

  pub few_merge : length (maps l) + length (maps r) ≤ most → new l ≡ maps l ++ maps r → new r ≡ [] → AreFew (λ i. length (new i)) most
  few_merge room taken emptied = few_joined (λ i. length (maps i)) (λ i. length (new i)) most l r few (λ other nl nr. ap length (others other nl nr)) room (ap length taken ∙ length-append (maps l) (maps r)) (ap length emptied)
