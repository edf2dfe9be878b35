-- The pairs of leaves together, what is found in them, and how they change with one key.
use Rattle.std.proofs.Common.{◌≡◌, ◌≢◌, ℕ, List, [], ◌∷◌, ◌++◌, Bool, true, false, is_some, Option, Some, None, refl, sym, ap, ◌∙◌, subst, true≢false}
use mathlib.Core.Logic.{dite}
use native.Mathlib.Decide.{ℕ_discrete}
use Rattle.std.proofs.lemmas.List.{append-nil}
use Rattle.std.specs.declared.cmp.Ordering.TheVariants.{Greater}
use Rattle.key_bytes.specs.Order.{is_below}
use Rattle.key_bytes.specs.Bound.{bound_cmp}
use Rattle.key_bytes.specs.declared.bound.Bound.TheVariants.{At, High}
use Rattle.key_bytes.proofs.Orders.{less_from}
use Rattle.anchor_rules.specs.Anchors.{Anchors, Span, in_span, next_anchor, span, has_leaf, target, Rises, AreAnchors}
use Rattle.anchor_rules.proofs.Spans.{in_target, only_target, span_here, span_later, no_span}
use Rattle.map_model.specs.Maps.{Pairs, IsMap, find, with, without, between, is_in}
use Rattle.map_model.proofs.Filters.{filter_all, all_pass}
use Rattle.map_model.proofs.Finds.{ascending_keep, ascending_with}
use Rattle.map_model.proofs.Kept.{find_kept, keep_with, keep_with_other, keep_without, keep_without_other}
use Rattle.map_model.proofs.Parts.{between_split}
use Rattle.leaf_spans.specs.Ends.{end_bound}
use Rattle.leaf_spans.specs.Spread.{Spread, inside, joined}

-- one leaf of no keys
pub spread_start : {V : Type 0} (maps : ℕ → Pairs V) (first : ℕ) → ((leaf : ℕ) → maps leaf ≡ []) → Spread (([], first) ∷ []) [] maps
spread_start {V} maps first empty = record { ascends = tt; parts = λ leaf. empty leaf ∙ none (span (([], first) ∷ []) leaf) }
  where
    none : (o : Option Span) → [] ≡ inside {V = V} o []
    none None = refl
    none (Some s) = refl

-- the leaf of a key is among the anchors
pub target_live : (A : Anchors) → AreAnchors A → (key : List ℕ) → has_leaf A (target A key) ≡ true
target_live A are key = ap (λ (o : Option Span). is_some o) (in_target A are key).1

-- a key just below another is no higher
pub below_in_order : (a b : List ℕ) → is_below a b ≡ true → bound_cmp (At a) (At b) ≢ Greater
below_in_order a b below = λ e. absurd (cc (less_from _ below, e))

module _ {V : Type 0} (m : Pairs V) where
  pub inside_up : IsMap m → (o : Option Span) → IsMap (inside o m)
  inside_up up None = tt
  inside_up up (Some s) = ascending_keep (in_span s) m up

  -- what is in a span is what is between its ends
  pub inside_between : (low : List ℕ) (high : Option (List ℕ)) → inside (Some (low, high)) m ≡ between m (At low) (end_bound high)
  inside_between low None = refl
  inside_between low (Some end) = refl

  pub all_from_empty : between m (At []) High ≡ m
  all_from_empty = filter_all (λ (p : List ℕ × V). is_in (At []) High p.0) m (all_pass (λ (p : List ℕ × V). is_in (At []) High p.0 ≡ true) (λ p. passes p.0) m)
    where
      passes : (k : List ℕ) → is_in (At []) High k ≡ true
      passes [] = refl
      passes (b ∷ k) = refl

module _ {V : Type 0} (A : Anchors) (are : AreAnchors A) (m : Pairs V) (up : IsMap m) (key : List ℕ) where
  -- a key is found in its leaf
  pub inside_find : find (inside (span A (target A key)) m) key ≡ find m key
  inside_find =
      let h = in_target A are key in
      ap (λ o. find (inside o m) key) h.1 ∙ find_kept (in_span h.0) m up key h.2

  pub inside_with : (value : V) → inside (span A (target A key)) (with m key value) ≡ with (inside (span A (target A key)) m) key value
  inside_with value =
      let h = in_target A are key in
      ap (λ o. inside o (with m key value)) h.1 ∙ (keep_with (in_span h.0) m up key value h.2 ∙ sym (ap (λ o. with (inside o m) key value) h.1))

  pub inside_without : inside (span A (target A key)) (without m key) ≡ without (inside (span A (target A key)) m) key
  inside_without =
      let h = in_target A are key in
      ap (λ o. inside o (without m key)) h.1 ∙ (keep_without (in_span h.0) m up key ∙ sym (ap (λ o. without (inside o m) key) h.1))

  -- and no other leaf has it
  module _ (other : ℕ) (ne : other ≢ target A key) where
    not_in : (s : Span) → span A other ≡ Some s → in_span s key ≡ false
    not_in s e = by (in_span s key) refl
      where
        by : (b : Bool) → in_span s key ≡ b → in_span s key ≡ false
        by true q = absurd (ne (only_target A are key other s e q))
        by false q = q

    pub inside_with_other : (value : V) → inside (span A other) (with m key value) ≡ inside (span A other) m
    inside_with_other value = by (span A other) refl
      where
        by : (o : Option Span) → span A other ≡ o → inside o (with m key value) ≡ inside o m
        by None e = refl
        by (Some s) e = keep_with_other (in_span s) m up key value (not_in s e)

    pub inside_without_other : inside (span A other) (without m key) ≡ inside (span A other) m
    inside_without_other = by (span A other) refl
      where
        by : (o : Option Span) → span A other ≡ o → inside o (without m key) ≡ inside o m
        by None e = refl
        by (Some s) e = keep_without_other (in_span s) m up key (not_in s e)

-- the leaves' pairs from an anchor on
module _ {V : Type 0} (m : Pairs V) (up : IsMap m) (maps : ℕ → Pairs V) where
  abbrev AreParts : Anchors → Type 0
  AreParts xs = (leaf : ℕ) → span xs leaf ≢ None → maps leaf ≡ inside (span xs leaf) m

  first_part : (x : List ℕ × ℕ) (xs : Anchors) → AreParts (x ∷ xs) → maps x.1 ≡ between m (At x.0) (end_bound (next_anchor xs))
  first_part x xs each =
      let here = span_here x xs x.1 refl in
      each x.1 (λ none. no_span (sym here ∙ none)) ∙ (ap (λ o. inside o m) here ∙ inside_between m x.0 (next_anchor xs))

  later_parts : (x : List ℕ × ℕ) (xs : Anchors) → Rises (x ∷ xs) → AreParts (x ∷ xs) → AreParts xs
  later_parts x xs rises each leaf some =
      let ne : x.1 ≢ leaf = λ e. some (ap (span xs) (sym e) ∙ rises.1) in
      let same = span_later x xs leaf ne in
      each leaf (λ none. some (sym same ∙ none)) ∙ ap (λ o. inside o m) same

  joined_from : (x : List ℕ × ℕ) (xs : Anchors) → Rises (x ∷ xs) → AreParts (x ∷ xs) → joined (x ∷ xs) maps ≡ between m (At x.0) High
  joined_from x [] rises each = append-nil (maps x.1) ∙ first_part x [] each
  joined_from x (y ∷ ys) rises each =
      ap (λ (t : Pairs V). t ++ joined (y ∷ ys) maps) (first_part x (y ∷ ys) each) ∙ (ap (λ (t : Pairs V). between m (At x.0) (At y.0) ++ t) (joined_from y ys rises.2 (later_parts x (y ∷ ys) rises each))
      ∙ between_split m up (At x.0) (At y.0) High (below_in_order x.0 y.0 rises.0.0) (λ e. absurd (cc (e))))

module _ {V : Type 0} (A : Anchors) (are : AreAnchors A) (m : Pairs V) (maps : ℕ → Pairs V) (spread : Spread A m maps) where
  -- the leaves' pairs together are the map
  pub spread_joined : joined A maps ≡ m
  spread_joined = by A are.rises are.first (λ leaf some. spread.parts leaf)
    where
      by : (B : Anchors) → Rises B → next_anchor B ≡ Some [] → ((leaf : ℕ) → span B leaf ≢ None → maps leaf ≡ inside (span B leaf) m) → joined B maps ≡ m
      by [] rises first each = absurd (cc (first))
      by (x ∷ xs) rises first each =
          let empty : x.0 ≡ [] = cc in
          joined_from m spread.ascends maps x xs rises each ∙ (ap (λ a. between m (At a) High) empty ∙ all_from_empty m)

  -- a key is found in its leaf
  pub spread_find : (key : List ℕ) → find m key ≡ find (maps (target A key)) key
  spread_find key = sym (ap (λ p. find p key) (spread.parts (target A key)) ∙ inside_find A are m spread.ascends key)

  module _ (new : ℕ → Pairs V) (leaf : ℕ) (key : List ℕ) where
    -- a key gets a value in its leaf
    pub spread_with : (value : V) → target A key ≡ leaf → new leaf ≡ with (maps leaf) key value → ((other : ℕ) → other ≢ leaf → new other ≡ maps other) → Spread A (with m key value) new
    spread_with value at change others =
        let here : new leaf ≡ inside (span A leaf) (with m key value) =
        change ∙ (ap (λ p. with p key value) (spread.parts leaf) ∙ subst (λ l. with (inside (span A l) m) key value ≡ inside (span A l) (with m key value)) at (sym (inside_with A are m spread.ascends key value))) in
        record {
          ascends = ascending_with m key value spread.ascends;
          parts = λ i. dite (ℕ_discrete i leaf)
              (λ same. subst (λ j. new j ≡ inside (span A j) (with m key value)) (sym same) here)
              (λ ne. others i ne ∙ (spread.parts i ∙ sym (inside_with_other A are m spread.ascends key i (λ e. ne (e ∙ at)) value)));
        }

    -- a key goes from its leaf
    pub spread_without : target A key ≡ leaf → new leaf ≡ without (maps leaf) key → ((other : ℕ) → other ≢ leaf → new other ≡ maps other) → Spread A (without m key) new
    spread_without at change others =
        let here : new leaf ≡ inside (span A leaf) (without m key) =
        change ∙ (ap (λ p. without p key) (spread.parts leaf) ∙ subst (λ l. without (inside (span A l) m) key ≡ inside (span A l) (without m key)) at (sym (inside_without A are m spread.ascends key))) in
        record {
          ascends = ascending_keep _ m spread.ascends;
          parts = λ i. dite (ℕ_discrete i leaf)
              (λ same. subst (λ j. new j ≡ inside (span A j) (without m key)) (sym same) here)
              (λ ne. others i ne ∙ (spread.parts i ∙ sym (inside_without_other A are m spread.ascends key i (λ e. ne (e ∙ at)))));
        }

module _ {V : Type 0} (A : Anchors) (m : Pairs V) (maps : ℕ → Pairs V) (spread : Spread A m maps) where
  -- where no leaf changes
  pub spread_same : (new : ℕ → Pairs V) → ((leaf : ℕ) → new leaf ≡ maps leaf) → Spread A m new
  spread_same new same = record { ascends = spread.ascends; parts = λ leaf. same leaf ∙ spread.parts leaf }

  -- a leaf that isn't among the anchors has no pairs
  pub spread_none : (leaf : ℕ) → has_leaf A leaf ≡ false → maps leaf ≡ []
  spread_none leaf dead = spread.parts leaf ∙ by (span A leaf) dead
    where
      by : (o : Option Span) → is_some o ≡ false → inside o m ≡ []
      by None e = refl
      by (Some s) e = absurd (true≢false e)

  pub spread_ascends : (leaf : ℕ) → IsMap (maps leaf)
  spread_ascends leaf = subst IsMap (sym (spread.parts leaf)) (inside_up m spread.ascends (span A leaf))
