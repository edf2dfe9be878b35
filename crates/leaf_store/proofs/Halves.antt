-- A leaf that is cut in two.
use Rattle.std.proofs.Common.{◌≡◌, ℕ, ◌+◌, List, [], ◌∷◌, ◌++◌, Bool, true, sym, ap, ◌∙◌, subst, take, drop, take-append-drop, length, inl, ◌≤◌, arith}
use Rattle.std.proofs.lemmas.List.{nil_from_length}
use Rattle.std.proofs.lemmas.List.Sorted.{IsPermutation-refl}
use Rattle.key_bytes.specs.Order.{is_below, is_same}
use Rattle.map_model.specs.Maps.{Pairs, IsMap, sorted}
use Rattle.map_model.proofs.Filters.{all_parts}
use Rattle.leaf_store.specs.Order.{ArePlaces}
use Rattle.leaf_store.specs.Rows.{bit, many, AreTags, AreOnce, IsLeaf}
use Rattle.leaf_store.proofs.Unsorted.{total_append, sorted_ascending}

-- no places are all of none
pub no_places : (order : List ℕ) → order ≡ [] → ArePlaces order
no_places order none = subst ArePlaces (sym none) (IsPermutation-refl [])

-- where there are no rows, no places are listed
pub none_listed : {V : Type 0} (rows : Pairs V) (order : List ℕ) → rows ≡ [] → length order ≤ length rows → order ≡ []
none_listed rows order none few = nil_from_length order (let z = ap length none in omega arith)

module _ {V : Type 0} where
  -- both parts of a map are maps
  ascending_parts : (front back : Pairs V) → IsMap (front ++ back) → IsMap front × IsMap back
  ascending_parts [] back up = (tt, up)
  ascending_parts (x ∷ front) back up =
      let rest = ascending_parts front back up.1 in
      let above = all_parts (λ (q : List ℕ × V). is_below x.0 q.0 ≡ true) front back up.0 in
      ((above.0, rest.0), rest.1)

  once_parts : (front back : Pairs V) → AreOnce (front ++ back) → AreOnce front × AreOnce back
  once_parts front back once =
      let sum : (key : List ℕ) → many key (front ++ back) ≡ many key front + many key back = λ key. total_append (λ (p : List ℕ × V). bit (is_same p.0 key)) front back in
      (λ key. let h = once key in let s = sum key in omega arith, λ key. let h = once key in let s = sum key in omega arith)

  module _ (rows : Pairs V) (up : IsMap rows) (n : ℕ) where
    both_ascend : IsMap (take n rows) × IsMap (drop n rows)
    both_ascend = ascending_parts (take n rows) (drop n rows) (subst IsMap (sym (take-append-drop n rows)) up)

    pub left_map : sorted (take n rows) ≡ take n (sorted rows)
    left_map = sorted_ascending (take n rows) both_ascend.0 ∙ ap (take n) (sym (sorted_ascending rows up))

    pub right_map : sorted (drop n rows) ≡ drop n (sorted rows)
    right_map = sorted_ascending (drop n rows) both_ascend.1 ∙ ap (drop n) (sym (sorted_ascending rows up))

    pub left_leaf : AreOnce rows → (salt : ℕ) (pairs : List (ℕ × ℕ)) → AreTags salt (take n rows) pairs → (order : List ℕ) → order ≡ [] → (ordered : Bool) → IsLeaf salt (take n rows) pairs order ordered
    left_leaf once salt pairs tags order none ordered = record {
      keys = (once_parts (take n rows) (drop n rows) (subst AreOnce (sym (take-append-drop n rows)) once)).0;
      tags = tags;
      places = no_places order none;
      few = let z = ap length none in omega arith;
      known = λ _. inl (none, both_ascend.0);
    }

    pub right_leaf : AreOnce rows → (salt : ℕ) (pairs : List (ℕ × ℕ)) → AreTags salt (drop n rows) pairs → (order : List ℕ) → order ≡ [] → (ordered : Bool) → IsLeaf salt (drop n rows) pairs order ordered
    right_leaf once salt pairs tags order none ordered = record {
      keys = (once_parts (take n rows) (drop n rows) (subst AreOnce (sym (take-append-drop n rows)) once)).1;
      tags = tags;
      places = no_places order none;
      few = let z = ap length none in omega arith;
      known = λ _. inl (none, both_ascend.1);
    }
