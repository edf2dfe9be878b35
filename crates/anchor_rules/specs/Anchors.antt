-- Anchors with their leaves, and the spans of keys between them.
use Rattle.std.specs.Prelude.{◌≡◌, ℕ, ◌+◌, ◌<◌, List, [], ◌∷◌, length, Bool, true, false, not, ◌&&◌, ◌||◌, ◌==◌, if◌then◌else◌, Option, Some, None, is_some, slice_index_or}
use Rattle.std.specs.List.{AllByRecursion}
use Rattle.key_bytes.specs.Order.{is_below}
use Rattle.key_bytes.specs.declared.limits.TheConstants.{LONGEST_KEY}

-- each anchor with its leaf
abbrev pub Anchors : Type 0
Anchors = List (List ℕ × ℕ)

-- the anchor and the leaf at a place of the list
abbrev pub anchor_at : Anchors → ℕ → List ℕ
anchor_at A i = (slice_index_or A i ([], 0)).0

abbrev pub leaf_at : Anchors → ℕ → ℕ
leaf_at A i = (slice_index_or A i ([], 0)).1

-- from an anchor to the next one, or without end
abbrev pub Span : Type 0
Span = List ℕ × Option (List ℕ)

-- the key is below this end, if there is one
abbrev pub is_before : Option (List ℕ) → List ℕ → Bool
is_before None key = true
is_before (Some end) key = is_below key end

-- the key isn't below the anchor, and is below the next one
abbrev pub in_span : Span → List ℕ → Bool
in_span s key = not (is_below key s.0) && is_before s.1 key

-- the first anchor of a list
abbrev pub next_anchor : Anchors → Option (List ℕ)
next_anchor [] = None
next_anchor (x ∷ xs) = Some x.0

-- the span of the leaf's keys, if it is in the list: from its anchor to the next one
abbrev pub span : Anchors → ℕ → Option Span
span [] leaf = None
span (x ∷ xs) leaf = if x.1 == leaf then Some (x.0, next_anchor xs) else span xs leaf

abbrev pub has_leaf : Anchors → ℕ → Bool
has_leaf A leaf = is_some (span A leaf)

-- the leaf of the last anchor that isn't above the key, and this leaf if there is none
abbrev pub target_from : ℕ → Anchors → List ℕ → ℕ
target_from leaf [] key = leaf
target_from leaf (x ∷ xs) key = target_from (if is_below key x.0 then leaf else x.1) xs key

-- the leaf of the last anchor that isn't above the key
abbrev pub target : Anchors → List ℕ → ℕ
target A key = target_from 0 A key

-- ascending anchors, each leaf once
abbrev pub Rises : Anchors → Type 0
Rises [] = Unit {0}
Rises (x ∷ xs) = AllByRecursion (λ (y : List ℕ × ℕ). is_below x.0 y.0 ≡ true) xs × (span xs x.1 ≡ None) × Rises xs

-- and the first one is empty
pub record AreAnchors (A : Anchors) : Type 0 where
  pub first : next_anchor A ≡ Some []
  pub rises : Rises A

-- no anchor is longer than a key may be
abbrev pub AreShort : Anchors → Type 0
AreShort A = AllByRecursion (λ (x : List ℕ × ℕ). length x.0 < LONGEST_KEY + 1) A

-- no key is in the spans of two leaves
abbrev pub Disjoint : Anchors → Type 0
Disjoint A = (i j : ℕ) (key : List ℕ) (s t : Span) → span A i ≡ Some s → span A j ≡ Some t → in_span s key ≡ true → in_span t key ≡ true → i ≡ j

-- the key cuts a span in two: it is above the anchor, and below the next one
abbrev pub cuts : Option Span → List ℕ → Bool
cuts None key = false
cuts (Some s) key = is_below s.0 key && is_before s.1 key

-- the new leaf can take the leaf's keys from this anchor on: it isn't in the list, and the anchor cuts the leaf's span
abbrev pub splits : Anchors → ℕ → List ℕ → ℕ → Bool
splits A leaf anchor new = not (has_leaf A new) && cuts (span A leaf) anchor

-- a new anchor behind a leaf's
abbrev pub with_split : Anchors → ℕ → List ℕ → ℕ → Anchors
with_split [] leaf anchor new = []
with_split (x ∷ xs) leaf anchor new = if x.1 == leaf then x ∷ (anchor, new) ∷ xs else x ∷ with_split xs leaf anchor new

-- the right leaf comes next after the left one
abbrev pub adjacent : Anchors → ℕ → ℕ → Bool
adjacent [] left right = false
adjacent (x ∷ []) left right = false
adjacent (x ∷ y ∷ ys) left right = (x.1 == left && y.1 == right) || adjacent (y ∷ ys) left right

-- without a leaf's anchor
abbrev pub with_merge : Anchors → ℕ → Anchors
with_merge [] right = []
with_merge (x ∷ xs) right = if x.1 == right then xs else x ∷ with_merge xs right
