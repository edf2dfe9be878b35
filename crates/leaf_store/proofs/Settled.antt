-- Rows that were sorted, and their tags.
use Rattle.std.proofs.Common.{◌≡◌, ℕ, ◌+◌, ◌<◌, List, [], ◌∷◌, Bool, true, sym, ap, ◌∙◌, subst, length, get_or, take, arith, inl, IsTrue, length-take}
use Rattle.std.specs.List.{AllByRecursion, Contains, remove}
use Rattle.std.specs.List.Sorted.{IsPermutation}
use Rattle.std.proofs.lemmas.List.{nil_from_length, take_more}
use Rattle.std.proofs.lemmas.List.Sorted.{IsPermutation-refl, IsPermutation-cons, IsPermutation-trans, IsPermutation-sym, IsPermutation-remove, length_permutation}
use Rattle.key_bytes.specs.Order.{is_below}
use Rattle.leaf_store.specs.Tag.{tag_of}
use Rattle.leaf_store.specs.Order.{ArePlaces}
use Rattle.map_model.specs.Halves.{keys_of}
use Rattle.map_model.specs.Maps.{Pairs, IsMap, sorted}
use Rattle.map_model.proofs.Finds.{ascending_sorted}
use Rattle.leaf_store.specs.Leaf.{LeafMap}
use Rattle.leaf_store.specs.Rows.{bit, is_pair, times, places, AreTags, IsLeaf}
use Rattle.leaf_store.proofs.Unsorted.{total_permutation, once_permutation, sorted_ascending, sorted_same}
use Rattle.leaf_store.proofs.Places.{times_contains, pair_itself, length-places}
use Rattle.leaf_store.proofs.Tagged.{tags_added}

-- lists with the same counts have the same elements
pub counted : (xs ys : List (ℕ × ℕ)) → ((q : ℕ × ℕ) → times q xs ≡ times q ys) → IsPermutation xs ys
counted [] [] h = IsPermutation-refl []
counted [] (y ∷ ys) h = let e = h y in let b = ap bit (pair_itself y) in absurd (omega arith)
counted (x ∷ xs) ys h =
    let e = h x in
    let b = ap bit (pair_itself x) in
    let has : Contains ys x = times_contains x ys (omega arith) in
    let rest = remove ys has.0 in
    let p : IsPermutation ys (x ∷ rest) = IsPermutation-remove ys has.0 x has.1 (sym has.2) in
    let same : (q : ℕ × ℕ) → times q xs ≡ times q rest = λ q. (let f = h q in let g = total_permutation (λ (z : ℕ × ℕ). bit (is_pair q z)) ys (x ∷ rest) p in omega arith) in
    IsPermutation-trans (x ∷ xs) (x ∷ rest) ys (IsPermutation-cons x xs rest (counted xs rest same)) (IsPermutation-sym ys (x ∷ rest) p)

module _ {V : Type 0} where
  -- one tag a row
  pub length-tags : (salt : ℕ) (rows : Pairs V) (pairs : List (ℕ × ℕ)) → AreTags salt rows pairs → length pairs ≡ length rows
  length-tags salt rows pairs tags = sym (length_permutation pairs (places salt 0 rows) (counted pairs (places salt 0 rows) tags)) ∙ length-places salt 0 rows

  pub no_tags : (salt : ℕ) (rows : Pairs V) (pairs : List (ℕ × ℕ)) → AreTags salt rows pairs → rows ≡ [] → pairs ≡ []
  no_tags salt rows pairs tags none = nil_from_length pairs (length-tags salt rows pairs tags ∙ ap length none)

  pub retagged : (salt : ℕ) (rows : Pairs V) (i : ℕ) (x : List ℕ × V) (tag : ℕ) (pairs more : List (ℕ × ℕ)) → i < length rows → tag ≡ tag_of salt (get_or rows i x).0 → AreTags salt (take i rows) pairs → IsPermutation ((tag, i) ∷ pairs) more → AreTags salt (take (i + 1) rows) more
  retagged salt rows i x tag pairs more lt e tags p =
      let size : length (take i rows) ≡ i = omega (arith, length-take i rows) in
      let q : IsPermutation ((tag_of salt (get_or rows i x).0, length (take i rows)) ∷ pairs) more = subst (λ n. IsPermutation ((tag_of salt (get_or rows i x).0, n) ∷ pairs) more) (sym size) (subst (λ t. IsPermutation ((t, i) ∷ pairs) more) e p) in
      subst (λ rs. AreTags salt rs more) (sym (take_more rows i x lt)) (tags_added salt (take i rows) pairs tags (get_or rows i x) more q)

  -- rows in the order of their keys, with no places listed
  pub settled_leaf : (salt : ℕ) (rows : Pairs V) (pairs : List (ℕ × ℕ)) (order : List ℕ) (ordered : Bool) → IsLeaf salt rows pairs order ordered → (new : Pairs V) (more : List (ℕ × ℕ)) (none : List ℕ) → new ≡ sorted rows → AreTags salt (sorted rows) more → none ≡ [] → IsLeaf salt new more none true
  settled_leaf salt rows pairs order ordered leaf new more none e tags empty = record {
    keys = once_permutation rows new (subst (IsPermutation rows) (sym e) (sorted_same rows leaf.keys)) leaf.keys;
    tags = subst (λ rs. AreTags salt rs more) (sym e) tags;
    places = subst ArePlaces (sym empty) (IsPermutation-refl []);
    few = let z = ap length empty in omega arith;
    known = λ _. inl (empty, subst IsMap (sym e) (ascending_sorted rows));
  }

  pub seen_map : (m n : LeafMap V) → m ≡ n → (p : Pairs V) → p ≡ m.map → p ≡ n.map
  seen_map m n e p f = subst (λ (s : LeafMap V). p ≡ s.map) e f

  pub seen_at : (m n : LeafMap V) → m ≡ n → (i : ℕ) (d x : List ℕ × V) → get_or m.map i d ≡ x → get_or n.map i d ≡ x
  seen_at m n e i d x f = subst (λ (s : LeafMap V). get_or s.map i d ≡ x) e f

  pub seen_room : (m n : LeafMap V) → m ≡ n → (i : ℕ) → i < length n.map → i < length m.map
  seen_room m n e i h = subst (λ (s : LeafMap V). i < length s.map) (sym e) h

  pub seen_ordered : (m n : LeafMap V) → m ≡ n → IsTrue n.is_ordered → IsTrue m.is_ordered
  seen_ordered m n e h = subst (λ (s : LeafMap V). IsTrue s.is_ordered) (sym e) h

  pub seen_spare : (m n : LeafMap V) → m ≡ n → m.spare ≡ n.spare
  seen_spare m n e = ap (λ (s : LeafMap V). s.spare) e

  pub seen_pairs : (m n : LeafMap V) → m ≡ n → m.map ≡ n.map
  seen_pairs m n e = ap (λ (s : LeafMap V). s.map) e

  -- rows whose keys are the map's, in its order, are the map
  ascending_keys : (xs ys : Pairs V) → keys_of xs ≡ keys_of ys → IsMap ys → IsMap xs
  ascending_keys [] ys e up = tt
  ascending_keys (x ∷ xs) [] e up = absurd (cc (e))
  ascending_keys (x ∷ xs) (y ∷ ys) e up =
      let here : x.0 ≡ y.0 = heads x.0 y.0 (keys_of xs) (keys_of ys) e in
      let rest : keys_of xs ≡ keys_of ys = tails x.0 y.0 (keys_of xs) (keys_of ys) e in
      (over x.0 xs ys rest (subst (λ k. AllByRecursion (λ (q : List ℕ × V). is_below k q.0 ≡ true) ys) (sym here) up.0), ascending_keys xs ys rest up.1)
    where
      heads : (a b : List ℕ) (l m : List (List ℕ)) → a ∷ l ≡ b ∷ m → a ≡ b
      heads a b l m e = cc

      tails : (a b : List ℕ) (l m : List (List ℕ)) → a ∷ l ≡ b ∷ m → l ≡ m
      tails a b l m e = cc

      over : (k : List ℕ) (xs ys : Pairs V) → keys_of xs ≡ keys_of ys → AllByRecursion (λ (q : List ℕ × V). is_below k q.0 ≡ true) ys → AllByRecursion (λ (q : List ℕ × V). is_below k q.0 ≡ true) xs
      over k [] ys e all = tt
      over k (x ∷ xs) [] e all = absurd (cc (e))
      over k (x ∷ xs) (y ∷ ys) e all = (subst (λ j. is_below k j ≡ true) (sym (heads x.0 y.0 (keys_of xs) (keys_of ys) e)) all.0, over k xs ys (tails x.0 y.0 (keys_of xs) (keys_of ys) e) all.1)

  pub settled_rows : (m n : LeafMap V) → m ≡ n → (rows : Pairs V) → sorted rows ≡ m.map → keys_of rows ≡ m.keys → n.keys ≡ keys_of n.map → (p : Pairs V) → n.map ≡ p → (rows ≡ p) × IsMap rows
  settled_rows m n e rows same keys in_order p is =
      let whole : keys_of rows ≡ keys_of (sorted rows) = keys ∙ (ap (λ (s : LeafMap V). s.keys) e ∙ (in_order ∙ ap keys_of (sym (same ∙ seen_pairs m n e)))) in
      let up : IsMap rows = ascending_keys rows (sorted rows) whole (ascending_sorted rows) in
      (sym (sorted_ascending rows up) ∙ (same ∙ (seen_pairs m n e ∙ is)), up)
