-- Where a key's leaf is after a split.
use Rattle.std.proofs.Common.{◌≡◌, ℕ, ◌<◌, ◌≤◌, List, Option, Some, None, is_some, is_none, not, refl, sym, ap, ◌∙◌, subst, arith, inl, inr}
use Rattle.anchor_rules.specs.Anchors.{Anchors, AreAnchors, target, with_split}
use Rattle.leaf_spans.proofs.Halving.{target_split}
use Rattle.map_model.specs.Halves.{parting}
use Rattle.row_words.specs.declared.shape.Shape.{Shape}
use Rattle.leaf_table.specs.Changes.{IsSplit}
use Rattle.leaf_table.specs.Facts.{IsWhole}
use Rattle.leaf_table.specs.Table.{Table, size_at, pairs_at}
use Rattle.solo_index.specs.Tending.{leaf_of, Opens}

-- after the split of its leaf a key's leaf has fewer keys
opened_room : (t u : Table) (key : List ℕ) → AreAnchors t.anchors → IsSplit t u (leaf_of t key) → 2 ≤ size_at t (leaf_of t key) → size_at u (leaf_of u key) < size_at t (leaf_of t key)
opened_room t u key are s two =
    let at = target_split t.anchors (leaf_of t key) (parting (pairs_at t (leaf_of t key))) s.right key are s.splits refl in
    let left = s.left_size in
    let right = s.right_size in
    let same : leaf_of u key ≡ target (with_split t.anchors (leaf_of t key) (parting (pairs_at t (leaf_of t key))) s.right) key = ap (λ (A : Anchors). target A key) s.anchors in
    elim at [
      | inl e ↦ subst (λ i. size_at u i < size_at t (leaf_of t key)) (sym (same ∙ e)) (omega arith)
      | inr e ↦ subst (λ i. size_at u i < size_at t (leaf_of t key)) (sym (same ∙ e)) (omega arith)
    ]

-- as the code finds it: a leaf with all the keys that it may have is split, and the key's leaf is looked for again
pub room_after : (t mid new last : Table) (key : List ℕ) (leaf size again : ℕ) → IsWhole t → mid ≡ t → leaf ≡ target t.anchors key → size ≡ size_at mid leaf → t.shape.hard ≤ size → IsSplit mid new leaf → last ≡ new → again ≡ target new.anchors key → size_at last again < last.shape.hard
room_after t mid new last key leaf size again whole same at is full split after found =
    let split' : IsSplit t new (leaf_of t key) = subst (λ (l : ℕ). IsSplit t new l) at (subst (λ (x : Table). IsSplit x new leaf) same split) in
    let most = whole.sizes (leaf_of t key) in
    let range = whole.ranges.soft in
    let above = whole.ranges.hard in
    let size' : size ≡ size_at t (leaf_of t key) = is ∙ (ap (λ (x : Table). size_at x leaf) same ∙ ap (size_at t) at) in
    let less = opened_room t new key whole.anchors split' (omega arith) in
    let shape : new.shape ≡ t.shape = split'.shape in
    subst (λ (x : Table). size_at x again < x.shape.hard) (sym after) (subst (λ i. size_at new i < new.shape.hard) (sym found) (omega (arith, ap (λ (k : Shape). k.hard) shape)))

-- a leaf is opened without a change of the map
pub opens_map : (old new : Table) (key : List ℕ) → Opens old new key → new.map ≡ old.map
opens_map old new key opens = elim opens [ inl split ↦ split.1.map | inr same ↦ ap (λ (t : Table). t.map) same.1 ]

pub not_some : {V : Type 0} (o : Option V) → not (is_some o) ≡ is_none o
not_some None = refl
not_some (Some value) = refl
