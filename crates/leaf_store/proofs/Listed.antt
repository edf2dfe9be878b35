-- The tags and places of a leaf's rows, as lists.
use Rattle.std.proofs.Common.{◌≡◌, ℕ, ◌+◌, List, [], ◌∷◌, refl, sym, ap, ◌∙◌, subst, length, get_or, map}
use Rattle.std.specs.List.{Contains, range_with_len}
use Rattle.std.specs.List.Sorted.{IsPermutation}
use Rattle.std.proofs.lemmas.List.Sorted.{IsPermutation-sym, IsPermutation-trans, IsPermutation-map}
use Rattle.map_model.specs.Halves.{key_at, keys_of}
use Rattle.map_model.specs.Maps.{Pairs, sorted}
use Rattle.leaf_store.specs.Tag.{tag_of}
use Rattle.leaf_store.specs.Leaf.{LeafMap}
use Rattle.leaf_store.specs.Rows.{places, AreTags, AreOnce}
use Rattle.leaf_store.proofs.Unsorted.{sorted_same, length-sorted}
use Rattle.leaf_store.proofs.Settled.{counted}
use Rattle.leaf_store.proofs.Tagged.{key_tagged}

module _ {V : Type 0} (salt : ℕ) where
  map_tags : (i : ℕ) (rows : Pairs V) → map (λ (p : ℕ × ℕ). p.0) (places salt i rows) ≡ map (λ (p : List ℕ × V). tag_of salt p.0) rows
  map_tags i [] = refl
  map_tags i (x ∷ rows) = ap (λ t. tag_of salt x.0 ∷ t) (map_tags (i + 1) rows)

  map_places : (i : ℕ) (rows : Pairs V) → map (λ (p : ℕ × ℕ). p.1) (places salt i rows) ≡ range_with_len i (length rows)
  map_places i [] = refl
  map_places i (x ∷ rows) = ap (λ t. i ∷ t) (map_places (i + 1) rows)

  module _ (rows : Pairs V) (pairs : List (ℕ × ℕ)) (once : AreOnce rows) (tags : AreTags salt rows pairs) where
    are_places : IsPermutation (places salt 0 rows) pairs
    are_places = IsPermutation-sym pairs (places salt 0 rows) (counted pairs (places salt 0 rows) tags)

    pub tags_listed : IsPermutation (map (λ (p : List ℕ × V). tag_of salt p.0) (sorted rows)) (map (λ (p : ℕ × ℕ). p.0) pairs)
    tags_listed =
        let tag : List ℕ × V → ℕ = λ p. tag_of salt p.0 in
        let rows_tags : IsPermutation (map tag rows) (map (λ (p : ℕ × ℕ). p.0) pairs) = subst (λ l. IsPermutation l (map (λ (p : ℕ × ℕ). p.0) pairs)) (map_tags 0 rows) (IsPermutation-map (λ (p : ℕ × ℕ). p.0) (places salt 0 rows) pairs are_places) in
        IsPermutation-trans (map tag (sorted rows)) (map tag rows) (map (λ (p : ℕ × ℕ). p.0) pairs) (IsPermutation-map tag (sorted rows) rows (IsPermutation-sym rows (sorted rows) (sorted_same rows once))) rows_tags

    pub each_tagged : (tag place : ℕ) → Contains pairs (tag, place) → tag ≡ tag_of salt (key_at rows place)
    each_tagged = key_tagged salt rows pairs tags

    pub keys_listed : IsPermutation (keys_of (sorted rows)) (keys_of rows)
    keys_listed = IsPermutation-map (λ (p : List ℕ × V). p.0) (sorted rows) rows (IsPermutation-sym rows (sorted rows) (sorted_same rows once))

    pub places_listed : IsPermutation (range_with_len 0 (length (sorted rows))) (map (λ (p : ℕ × ℕ). p.1) pairs)
    places_listed = subst (λ l. IsPermutation l (map (λ (p : ℕ × ℕ). p.1) pairs)) (map_places 0 rows ∙ ap (range_with_len 0) (sym (length-sorted rows once))) (IsPermutation-map (λ (p : ℕ × ℕ). p.1) (places salt 0 rows) pairs are_places)

-- a leaf's value in place of what its fields say
module _ {V : Type 0} (m n : LeafMap V) (e : m ≡ n) (pairs : List (ℕ × ℕ)) where
  pub seen_tags : IsPermutation (map (λ (p : List ℕ × V). tag_of m.salt p.0) m.map) (map (λ (p : ℕ × ℕ). p.0) pairs) → IsPermutation (map (λ (p : List ℕ × V). tag_of n.salt p.0) n.map) (map (λ (p : ℕ × ℕ). p.0) pairs)
  seen_tags h = subst (λ (s : LeafMap V). IsPermutation (map (λ (p : List ℕ × V). tag_of s.salt p.0) s.map) (map (λ (p : ℕ × ℕ). p.0) pairs)) e h

  pub seen_each : ((tag place : ℕ) → Contains pairs (tag, place) → tag ≡ tag_of m.salt (get_or m.keys place [])) → (tag place : ℕ) → Contains pairs (tag, place) → tag ≡ tag_of n.salt (get_or n.keys place [])
  seen_each h tag place has = subst (λ (s : LeafMap V). tag ≡ tag_of s.salt (get_or s.keys place [])) e (h tag place has)

  pub seen_keys : IsPermutation (keys_of m.map) m.keys → IsPermutation (keys_of n.map) n.keys
  seen_keys h = subst (λ (s : LeafMap V). IsPermutation (keys_of s.map) s.keys) e h

  pub seen_places : IsPermutation (range_with_len 0 (length m.map)) (map (λ (p : ℕ × ℕ). p.1) pairs) → IsPermutation (range_with_len 0 (length n.map)) (map (λ (p : ℕ × ℕ). p.1) pairs)
  seen_places h = subst (λ (s : LeafMap V). IsPermutation (range_with_len 0 (length s.map)) (map (λ (p : ℕ × ℕ). p.1) pairs)) e h
