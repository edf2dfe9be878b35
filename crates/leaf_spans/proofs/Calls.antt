-- What a call whose keys lie in one span does to the parts of the map in that span and in every other.
use Rattle.std.proofs.Common.{◌≡◌, ◌≢◌, ℕ, ◌+◌, ◌≤◌, ◌⊎◌, inl, inr, List, length, Bool, true, false, cond, is_some, Option, Some, None, refl, sym, arith}
use Rattle.anchor_rules.specs.Anchors.{Anchors, Span, in_span, span, AreAnchors}
use Rattle.anchor_rules.proofs.Spans.{disjoint}
use Rattle.map_model.specs.Calls.{Call, Get, Put, Del, Part, Reply, Absent, New, Set, Gone, found, answer_of, map_after}
use Rattle.map_model.specs.Maps.{Pairs, IsMap, find}
use Rattle.map_model.proofs.KeptCalls.{answer_of-kept, map_after-kept, map_after-kept_other, answer_of-kept_part}
use Rattle.map_model.proofs.Lengths.{length_with, length_without}
use Rattle.leaf_spans.specs.Calls.{Lies, CountsNew}
use Rattle.leaf_spans.specs.Spread.{inside}

module _ (s : Span) (m : Pairs (List ℕ)) (up : IsMap m) where
  -- the part in the span answers as the whole
  pub answer_part : (c : Call) → Lies s c → answer_of (inside (Some s) m) c ≡ answer_of m c
  answer_part (Get key) h = answer_of-kept (in_span s) m up (Get key) h
  answer_part (Put key value) h = answer_of-kept (in_span s) m up (Put key value) h
  answer_part (Del key) h = answer_of-kept (in_span s) m up (Del key) h
  answer_part (Part from upto) h = answer_of-kept_part (in_span s) m up from upto h

  -- and changes as the whole does
  pub after_part : (c : Call) → Lies s c → map_after (inside (Some s) m) c ≡ inside (Some s) (map_after m c)
  after_part (Get key) h = refl
  after_part (Put key value) h = sym (map_after-kept (in_span s) m up (Put key value) h)
  after_part (Del key) h = sym (map_after-kept (in_span s) m up (Del key) h)
  after_part (Part from upto) h = refl

-- the part of every other leaf stays
module _ (A : Anchors) (are : AreAnchors A) (leaf other : ℕ) (ne : other ≢ leaf) (s : Span) (is : span A leaf ≡ Some s) (m : Pairs (List ℕ)) (up : IsMap m) where
  not_in : (key : List ℕ) (t : Span) → span A other ≡ Some t → in_span s key ≡ true → in_span t key ≡ false
  not_in key t e h = by (in_span t key) refl
    where
      by : (b : Bool) → in_span t key ≡ b → in_span t key ≡ false
      by false q = q
      by true q = absurd (ne (disjoint A are other leaf key t s e is q h))

  pub other_part : (c : Call) → Lies s c → inside (span A other) (map_after m c) ≡ inside (span A other) m
  other_part c h = by (span A other) refl c h
    where
      by : (o : Option Span) → span A other ≡ o → (c : Call) → Lies s c → inside o (map_after m c) ≡ inside o m
      by None e c h = refl
      by (Some t) e (Get key) h = refl
      by (Some t) e (Put key value) h = map_after-kept_other (in_span t) m up (Put key value) (not_in key t e h)
      by (Some t) e (Del key) h = map_after-kept_other (in_span t) m up (Del key) (not_in key t e h)
      by (Some t) e (Part from upto) h = refl

-- a map has one key more after a call that answers New, and no more after any other
abbrev pub GrowsBy : Reply → ℕ → ℕ → Type 0
GrowsBy reply before after = ((reply ≡ New) × (after ≡ before + 1)) ⊎ (((p : ℕ) → CountsNew reply p p) × (after ≤ before))

pub grows_by : (m : Pairs (List ℕ)) → IsMap m → (c : Call) → GrowsBy (answer_of m c) (length m) (length (map_after m c))
grows_by m up (Get key) = inr (by (find m key), omega arith)
  where
    by : (o : Option (List ℕ)) → (p : ℕ) → CountsNew (found o) p p
    by None p = refl
    by (Some v) p = refl
grows_by m up (Put key value) = by (is_some (find m key)) (length_with m up key value)
  where
    by : (b : Bool) → length (map_after m (Put key value)) ≡ cond b (length m) (length m + 1) → GrowsBy (cond b Set New) (length m) (length (map_after m (Put key value)))
    by true e = inr (λ p. refl, omega (arith, e))
    by false e = inl (refl, e)
grows_by m up (Del key) = inr (by (is_some (find m key)), let h = length_without m up key in omega (arith, h))
  where
    by : (b : Bool) → (p : ℕ) → CountsNew (cond b Gone Absent) p p
    by true p = refl
    by false p = refl
grows_by m up (Part from upto) = inr (λ p. refl, omega arith)
