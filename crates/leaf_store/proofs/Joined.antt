-- Two leaves with no key in both, as one.
use Rattle.std.proofs.Common.{◌≡◌, ℕ, List, ◌++◌, false, None, sym, ap, ◌∙◌, subst, inl, inr, ◌⊎◌, arith, length, length-append, take, ◌≤◌}
use Rattle.std.proofs.Math.Seq.{take-append_seam}
use Rattle.std.proofs.lemmas.List.Sorted.{IsPermutation-append}
use Rattle.key_bytes.specs.Order.{is_same}
use Rattle.map_model.specs.Maps.{Pairs, find, sorted}
use Rattle.map_model.proofs.Finds.{find_sorted}
use Rattle.leaf_store.specs.Order.{ArePlaces}
use Rattle.leaf_store.specs.Rows.{bit, AreTags, AreOnce, IsLeaf}
use Rattle.leaf_store.proofs.Settled.{length-tags}
use Rattle.leaf_store.proofs.Unsorted.{total_append, many_none, sorted_permutation, sorted_same}

-- lists in place of equal ones
pub still_apart : {V : Type 0} (left right p q : Pairs V) → left ≡ p → right ≡ q → ((key : List ℕ) → (find p key ≡ None) ⊎ (find q key ≡ None)) → (key : List ℕ) → (find left key ≡ None) ⊎ (find right key ≡ None)
still_apart left right p q e f apart key = subst (λ a. (find a key ≡ None) ⊎ (find right key ≡ None)) (sym e) (subst (λ b. (find p key ≡ None) ⊎ (find b key ≡ None)) (sym f) (apart key))

-- before the tags of the right rows are added
pub seam_tags : {V : Type 0} (left right : Pairs V) (salt : ℕ) (pairs : List (ℕ × ℕ)) → AreTags salt left pairs → AreTags salt (take (length pairs) (left ++ right)) pairs
seam_tags left right salt pairs tags = subst (λ rows. AreTags salt rows pairs) (sym (ap (λ n. take n (left ++ right)) (length-tags salt left pairs tags) ∙ take-append_seam left right)) tags

module _ {V : Type 0} (left right : Pairs V) (once : AreOnce left) (other : AreOnce right) (apart : (key : List ℕ) → (find (sorted left) key ≡ None) ⊎ (find (sorted right) key ≡ None)) where
  pub once_joined : AreOnce (left ++ right)
  once_joined key =
      let sum = total_append (λ (p : List ℕ × V). bit (is_same p.0 key)) left right in
      let a = once key in
      let b = other key in
      elim (apart key) [
        | inl gone ↦ let none = many_none key left (sym (find_sorted left key) ∙ gone) in omega arith
        | inr gone ↦ let none = many_none key right (sym (find_sorted right key) ∙ gone) in omega arith
      ]

  pub joined_map : sorted (left ++ right) ≡ sorted (sorted left ++ sorted right)
  joined_map = sorted_permutation (left ++ right) (sorted left ++ sorted right) (IsPermutation-append left (sorted left) right (sorted right) (sorted_same left once) (sorted_same right other)) once_joined

  pub joined_leaf : (salt : ℕ) (pairs : List (ℕ × ℕ)) (order : List ℕ) → AreTags salt (left ++ right) pairs → ArePlaces order → length order ≤ length left → IsLeaf salt (left ++ right) pairs order false
  joined_leaf salt pairs order tags places few = record { keys = once_joined; tags = tags; places = places; few = omega (arith, few, length-append left right); known = λ t. absurd (cc (t)) }
