-- The tags where the last row goes to the place of another.
use Rattle.std.proofs.Common.{◌≡◌, ℕ, ◌+◌, ◌-◌, ◌<◌, List, [], ◌∷◌, ◌++◌, Bool, true, false, refl, sym, ap, ◌∙◌, subst, length, get_or, take, drop, set, arith, zero-add, length-take, length-drop, take-append-drop, get_or-set_same, get_or-set_other, ◌≢◌}
use mathlib.Core.Logic.{dite}
use native.Mathlib.Decide.{ℕ_discrete}
use Rattle.std.specs.List.{Contains, swap_remove}
use Rattle.std.specs.List.Sorted.{IsPermutation}
use Rattle.std.proofs.Math.ListN.{length-set}
use Rattle.std.proofs.lemmas.List.{drop_more, get_or_default}
use Rattle.leaf_store.specs.Tag.{tag_of}
use Rattle.map_model.specs.Maps.{Pairs}
use Rattle.leaf_store.specs.Rows.{bit, is_pair, times, places, AreTags}
use Rattle.leaf_store.proofs.Unsorted.{total_permutation, total_append}
use Rattle.leaf_store.proofs.Places.{times_contains, contains_times, places_append, times_set, pair_same}
use Rattle.leaf_store.proofs.Tagged.{row_tag}

pub tag_at : {V : Type 0} (salt : ℕ) (rows : Pairs V) (i t : ℕ) (x d : List ℕ × V) → i < length rows → t ≡ tag_of salt (get_or rows i x).0 → t ≡ tag_of salt (get_or rows i d).0
tag_at {V} salt rows i t x d lt e = e ∙ ap (λ (p : List ℕ × V). tag_of salt p.0) (get_or_default rows i x d lt)

empty_is : {X : Type 0} (xs : List X) → length xs ≡ 0 → xs ≡ []
empty_is [] e = refl
empty_is (x ∷ xs) e = absurd (omega arith)

last_split : {X : Type 0} (ys : List X) (n : ℕ) (d : X) → length ys ≡ n + 1 → ys ≡ take n ys ++ get_or ys n d ∷ []
last_split ys n d len =
    let nothing : drop (n + 1) ys ≡ [] = empty_is (drop (n + 1) ys) (omega (arith, length-drop (n + 1) ys)) in
    sym (take-append-drop n ys) ∙ ap (λ t. take n ys ++ t) (drop_more ys n d (omega arith) ∙ ap (λ t. get_or ys n d ∷ t) nothing)

module _ {V : Type 0} (salt : ℕ) (rows : Pairs V) (i : ℕ) (lt : i < length rows) (d : List ℕ × V) where
  pub taken_times : (q : ℕ × ℕ) → times q (places salt 0 (swap_remove rows i d)) + bit (is_pair q (tag_of salt (get_or rows i d).0, i)) + bit (is_pair q (tag_of salt (get_or rows (length rows - 1) d).0, length rows - 1))
      ≡ times q (places salt 0 rows) + bit (is_pair q (tag_of salt (get_or rows (length rows - 1) d).0, i))
  taken_times q =
      let n : ℕ = length rows - 1 in
      let l = get_or rows n d in
      let ys = set rows i l in
      let size : length ys ≡ n + 1 = omega (arith, length-set rows i l) in
      let at : get_or ys n d ≡ l = dite (ℕ_discrete i n)
      (λ e. subst (λ k. get_or (set rows i l) k d ≡ l) e (get_or-set_same rows i l d lt))
      (λ ne. let apart : n ≢ i = λ e. ne (sym e) in rw get_or-set_other refl) in
      let whole : ys ≡ take n ys ++ l ∷ [] = last_split ys n d size ∙ ap (λ x. take n ys ++ x ∷ []) at in
      let short : 0 + length (take n ys) ≡ n = omega (arith, length-take n ys) in
      let parts : times q (places salt 0 ys) ≡ times q (places salt 0 (take n ys)) + (bit (is_pair q (tag_of salt l.0, n)) + 0) =
      ap (λ t. times q (places salt 0 t)) whole ∙ (ap (times q) (places_append salt 0 (take n ys) (l ∷ [])) ∙ (total_append (λ (x : ℕ × ℕ). bit (is_pair q x)) (places salt 0 (take n ys)) ((tag_of salt l.0, 0 + length (take n ys)) ∷ [])
      ∙ ap (λ k. times q (places salt 0 (take n ys)) + (bit (is_pair q (tag_of salt l.0, k)) + 0)) short)) in
      let moved = times_set salt q 0 rows i l d lt in
      let a : bit (is_pair q (tag_of salt (get_or rows i d).0, 0 + i)) ≡ bit (is_pair q (tag_of salt (get_or rows i d).0, i)) = ap (λ k. bit (is_pair q (tag_of salt (get_or rows i d).0, k))) (zero-add i) in
      let b : bit (is_pair q (tag_of salt l.0, 0 + i)) ≡ bit (is_pair q (tag_of salt l.0, i)) = ap (λ k. bit (is_pair q (tag_of salt l.0, k))) (zero-add i) in
      omega arith

  module _ (pairs rest : List (ℕ × ℕ)) (tags : AreTags salt rows pairs) (gone : IsPermutation pairs ((tag_of salt (get_or rows i d).0, i) ∷ rest)) where
    without_times : (q : ℕ × ℕ) → times q pairs ≡ bit (is_pair q (tag_of salt (get_or rows i d).0, i)) + times q rest
    without_times q = total_permutation (λ (x : ℕ × ℕ). bit (is_pair q x)) pairs _ gone

    -- it was the last
    pub last_taken : i ≡ length rows - 1 → AreTags salt (swap_remove rows i d) rest
    last_taken e q =
        let a = tags q in
        let b = without_times q in
        let c = taken_times q in
        let f : bit (is_pair q (tag_of salt (get_or rows (length rows - 1) d).0, length rows - 1)) ≡ bit (is_pair q (tag_of salt (get_or rows (length rows - 1) d).0, i)) = ap (λ k. bit (is_pair q (tag_of salt (get_or rows (length rows - 1) d).0, k))) (sym e) in
        omega arith

    -- or another one
    pub last_there : i < length rows - 1 → Contains rest (tag_of salt (get_or rows (length rows - 1) d).0, length rows - 1)
    last_there below =
        let q : ℕ × ℕ = (tag_of salt (get_or rows (length rows - 1) d).0, length rows - 1) in
        let has = row_tag salt rows pairs tags (length rows - 1) d (omega arith) in
        let m = contains_times q pairs has.0 has.1 has.2 in
        let b = without_times q in
        let other : (t : Bool) → is_pair q (tag_of salt (get_or rows i d).0, i) ≡ t → bit (is_pair q (tag_of salt (get_or rows i d).0, i)) ≡ 0 = λ t. elim t as (λ t. is_pair q (tag_of salt (get_or rows i d).0, i) ≡ t → bit (is_pair q (tag_of salt (get_or rows i d).0, i)) ≡ 0) [
          | true ↦ λ e. let same : i ≡ length rows - 1 = ap (λ (p : ℕ × ℕ). p.1) (pair_same q (tag_of salt (get_or rows i d).0, i) e) in absurd (omega arith)
          | false ↦ λ e. ap bit e
        ] in
        let z = other (is_pair q (tag_of salt (get_or rows i d).0, i)) refl in
        times_contains q rest (omega arith)

    pub other_taken : (more : List (ℕ × ℕ)) → IsPermutation ((tag_of salt (get_or rows (length rows - 1) d).0, i) ∷ rest) ((tag_of salt (get_or rows (length rows - 1) d).0, length rows - 1) ∷ more) → AreTags salt (swap_remove rows i d) more
    other_taken more p q =
        let a = tags q in
        let b = without_times q in
        let c = taken_times q in
        let u = total_permutation (λ (x : ℕ × ℕ). bit (is_pair q x)) _ _ p in
        omega arith
