-- Rows in any order, where no key stands twice.
use Rattle.std.proofs.Common.{◌≡◌, ℕ, zero, suc, ◌+◌, ◌<◌, ◌≤◌, List, [], ◌∷◌, ◌++◌, Bool, true, false, cond, not, Some, None, Option, refl, sym, ap, ◌∙◌, subst, length, get_or, take, drop, set, arith, add-one}
use Rattle.std.specs.List.{Contains, sum_by, remove, swap_remove}
use Rattle.std.specs.List.Sorted.{IsPermutation}
use Rattle.std.proofs.lemmas.List.{set_split}
use Rattle.std.proofs.lemmas.List.Sums.{sum_by_from}
use Rattle.std.proofs.lemmas.List.Sorted.{sum_by-IsPermutation, IsPermutation-to_front, IsPermutation-remove, IsPermutation-middle, IsPermutation-swap_remove, IsPermutation-sym, IsPermutation-refl, IsPermutation-cons, IsPermutation-trans, Contains-permutation, length_permutation}
use Rattle.map_model.proofs.Parts.{keep_cut}
use Rattle.key_bytes.specs.Order.{is_below, is_same}
use Rattle.map_model.specs.Maps.{Pairs, IsMap, find, keep, with, without, sorted}
use Rattle.key_bytes.proofs.Orders.{placed, less, same, more, same_is, same_itself, below_not_back}
use Rattle.map_model.proofs.Finds.{find_first, find_other, find_keep, find_with, find_without, ascending_with, ascending_keep, ascending_sorted, find_sorted, same_map}
use Rattle.leaf_store.specs.Leaf.{LeafMap}
use Rattle.leaf_store.specs.Rows.{bit, total, many, AreOnce}

pub total_sum : {X : Type 0} (f : X → ℕ) (xs : List X) → total f xs ≡ sum_by f xs
total_sum f [] = refl
total_sum f (x ∷ xs) = omega (arith, total_sum f xs, sum_by_from f (0 + f x) xs)

pub total_permutation : {X : Type 0} (f : X → ℕ) (xs ys : List X) → IsPermutation xs ys → total f xs ≡ total f ys
total_permutation f xs ys p = total_sum f xs ∙ (sym (sum_by-IsPermutation f xs ys p) ∙ sym (total_sum f ys))

pub total_append : {X : Type 0} (f : X → ℕ) (xs ys : List X) → total f (xs ++ ys) ≡ total f xs + total f ys
total_append f [] ys = omega arith
total_append f (x ∷ xs) ys = omega (arith, total_append f xs ys)

module _ {V : Type 0} where
  pub many_here : (x : List ℕ × V) (rows : Pairs V) → many x.0 (x ∷ rows) ≡ 1 + many x.0 rows
  many_here x rows = ap (λ b. bit b + many x.0 rows) (same_itself x.0)

  pub many_none : (key : List ℕ) (rows : Pairs V) → find rows key ≡ None → many key rows ≡ 0
  many_none key [] e = refl
  many_none key (x ∷ rows) e = elim (is_same x.0 key) as (λ s. cond s (Some x.1) (find rows key) ≡ None → bit s + many key rows ≡ 0) [
    | true ↦ λ e. absurd (cc)
    | false ↦ λ e. omega (arith, many_none key rows e)
  ] e

  pub none_many : (key : List ℕ) (rows : Pairs V) → many key rows ≡ 0 → find rows key ≡ None
  none_many key [] e = refl
  none_many key (x ∷ rows) e = elim (is_same x.0 key) as (λ s. bit s + many key rows ≡ 0 → cond s (Some x.1) (find rows key) ≡ None) [
    | true ↦ λ e. absurd (omega arith)
    | false ↦ λ e. none_many key rows (omega arith)
  ] e

  pub once_tail : (x : List ℕ × V) (rows : Pairs V) → AreOnce (x ∷ rows) → AreOnce rows
  once_tail x rows once key = let h = once key in omega arith

  pub once_gone : (x : List ℕ × V) (rows : Pairs V) → AreOnce (x ∷ rows) → find rows x.0 ≡ None
  once_gone x rows once = none_many x.0 rows (let h = once x.0 in let e = many_here x rows in omega arith)

  pub once_permutation : (rows others : Pairs V) → IsPermutation rows others → AreOnce rows → AreOnce others
  once_permutation rows others p once key = let h = once key in let e = total_permutation (λ (q : List ℕ × V). bit (is_same q.0 key)) rows others p in omega arith

  pub once_more : (x : List ℕ × V) (rows : Pairs V) → AreOnce rows → find rows x.0 ≡ None → AreOnce (x ∷ rows)
  once_more x rows once gone key = elim (is_same x.0 key) as (λ s. is_same x.0 key ≡ s → bit s + many key rows ≤ 1) [
    | true ↦ λ e. let none : many key rows ≡ 0 = many_none key rows (subst (λ k. find rows k ≡ None) (same_is x.0 key e) gone) in omega arith
    | false ↦ λ e. let h = once key in omega arith
  ] refl

  -- a row is found by its key
  pub many_at : (rows : Pairs V) (i : ℕ) (d : List ℕ × V) → i < length rows → 0 < many (get_or rows i d).0 rows
  many_at [] i d lt = absurd (omega arith)
  many_at (x ∷ rows) zero d lt = let e = many_here x rows in omega arith
  many_at (x ∷ rows) (suc i) d lt = let h = many_at rows i d (omega arith) in omega arith

  pub find_at : (rows : Pairs V) (i : ℕ) (d : List ℕ × V) → AreOnce rows → i < length rows → find rows (get_or rows i d).0 ≡ Some (get_or rows i d).1
  find_at [] i d once lt = absurd (omega arith)
  find_at (x ∷ rows) zero d once lt = find_first rows x x.0 refl
  find_at (x ∷ rows) (suc i) d once lt =
      let y = get_or rows i d in
      let ih = find_at rows i d (once_tail x rows once) (omega arith) in
      elim (is_same x.0 y.0) as (λ s. is_same x.0 y.0 ≡ s → find (x ∷ rows) y.0 ≡ Some y.1) [
        | true ↦ λ e. let h = once y.0 in let m = many_at rows i d (omega arith) in let b : bit (is_same x.0 y.0) ≡ 1 = ap bit e in absurd (omega arith)
        | false ↦ λ e. find_other rows x y.0 e ∙ ih
      ] refl

  pub found_contains : (rows : Pairs V) (key : List ℕ) (v : V) → find rows key ≡ Some v → Contains rows (key, v)
  found_contains [] key v e = absurd (cc)
  found_contains (x ∷ rows) key v e = elim (is_same x.0 key) as (λ s. is_same x.0 key ≡ s → cond s (Some x.1) (find rows key) ≡ Some v → Contains (x ∷ rows) (key, v)) [
    | true ↦ λ s f. let w : x.1 ≡ v = cc in (0, omega arith, ap (λ k. (k, x.1)) (same_is x.0 key s) ∙ ap (λ (y : V). (key, y)) w)
    | false ↦ λ s f. let h = found_contains rows key v f in (suc h.0, (let lt = h.1 in omega arith), h.2)
  ] refl e

  pub contains_found : (rows : Pairs V) (key : List ℕ) (v : V) → AreOnce rows → Contains rows (key, v) → find rows key ≡ Some v
  contains_found rows key v once has =
      let h = find_at rows has.0 (key, v) once has.1 in
      subst (λ (p : List ℕ × V). find rows p.0 ≡ Some p.1) has.2 h

  pub find_permutation : (rows others : Pairs V) → IsPermutation rows others → AreOnce rows → (key : List ℕ) → find rows key ≡ find others key
  find_permutation rows others p once key = sides (find rows key) (find others key) refl refl
    where
      sides : (a b : Option V) → find rows key ≡ a → find others key ≡ b → find rows key ≡ find others key
      sides (Some v) b e f = e ∙ sym (contains_found others key v (once_permutation rows others p once) (Contains-permutation rows others (key, v) p (found_contains rows key v e)))
      sides None None e f = e ∙ sym f
      sides None (Some v) e f = contains_found rows key v once (Contains-permutation others rows (key, v) (IsPermutation-sym rows others p) (found_contains others key v f)) ∙ sym f

  -- the map stays where rows only move
  pub sorted_permutation : (rows others : Pairs V) → IsPermutation rows others → AreOnce rows → sorted rows ≡ sorted others
  sorted_permutation rows others p once = same_map (sorted rows) (sorted others) (ascending_sorted rows) (ascending_sorted others) (λ key. find_sorted rows key ∙ (find_permutation rows others p once key ∙ sym (find_sorted others key)))

  pub sorted_ascending : (rows : Pairs V) → IsMap rows → sorted rows ≡ rows
  sorted_ascending rows up = same_map (sorted rows) rows (ascending_sorted rows) up (λ key. find_sorted rows key)

  -- a new row
  pub sorted_added : (rows : Pairs V) (key : List ℕ) (v : V) → AreOnce rows → find rows key ≡ None → sorted (rows ++ (key, v) ∷ []) ≡ with (sorted rows) key v
  sorted_added rows key v once gone =
      let front = IsPermutation-to_front rows (key, v) in
      sorted_permutation (rows ++ (key, v) ∷ []) ((key, v) ∷ rows) front (once_permutation ((key, v) ∷ rows) (rows ++ (key, v) ∷ []) (IsPermutation-sym _ _ front) (once_more (key, v) rows once gone))

  pub once_added : (rows : Pairs V) (key : List ℕ) (v : V) → AreOnce rows → find rows key ≡ None → AreOnce (rows ++ (key, v) ∷ [])
  once_added rows key v once gone = once_permutation ((key, v) ∷ rows) (rows ++ (key, v) ∷ []) (IsPermutation-sym _ _ (IsPermutation-to_front rows (key, v))) (once_more (key, v) rows once gone)

  -- two changes of one key
  pub with_with : (m : Pairs V) (key : List ℕ) (old v : V) → IsMap m → with (with m key old) key v ≡ with m key v
  with_with m key old v up = same_map _ _ (ascending_with (with m key old) key v (ascending_with m key old up)) (ascending_with m key v up) (λ j.
      find_with (with m key old) key v j ∙ (ap (λ o. cond (is_same key j) (Some v) o) (find_with m key old j)
      ∙ (elim (is_same key j) as (λ s. cond s (Some v) (cond s (Some old) (find m j)) ≡ cond s (Some v) (find m j)) [ true ↦ refl | false ↦ refl ] ∙ sym (find_with m key v j))))

  pub without_with : (m : Pairs V) (key : List ℕ) (v : V) → IsMap m → find m key ≡ None → without (with m key v) key ≡ m
  without_with m key v up gone = same_map _ _ (ascending_keep (λ k. not (is_same k key)) (with m key v) (ascending_with m key v up)) up (λ j.
      find_without (with m key v) key j ∙ (ap (λ o. cond (is_same key j) None o) (find_with m key v j)
      ∙ elim (is_same key j) as (λ s. is_same key j ≡ s → cond s None (cond s (Some v) (find m j)) ≡ find m j) [
        | true ↦ λ e. sym (subst (λ k. find m k ≡ None) (same_is key j e) gone)
        | false ↦ λ e. refl
      ] refl))

  -- a row taken out, or written over
  module _ (rows : Pairs V) (i : ℕ) (x : List ℕ × V) (once : AreOnce rows) (in_range : i < length rows) (read : x ≡ get_or rows i x) where
    parted : IsPermutation rows (x ∷ remove rows i)
    parted = IsPermutation-remove rows i x in_range read

    rest_once : AreOnce (remove rows i)
    rest_once = once_tail x (remove rows i) (once_permutation rows (x ∷ remove rows i) parted once)

    rest_gone : find (remove rows i) x.0 ≡ None
    rest_gone = once_gone x (remove rows i) (once_permutation rows (x ∷ remove rows i) parted once)

    written : (v : V) → IsPermutation (set rows i (x.0, v)) ((x.0, v) ∷ remove rows i)
    written v = subst (λ ys. IsPermutation ys ((x.0, v) ∷ remove rows i)) (sym (set_split rows i (x.0, v) in_range)) (rw (← add-one) (IsPermutation-middle (take i rows) (x.0, v) (drop (i + 1) rows)))

    pub once_set : (v : V) → AreOnce (set rows i (x.0, v))
    once_set v = once_permutation ((x.0, v) ∷ remove rows i) (set rows i (x.0, v)) (IsPermutation-sym _ _ (written v)) (once_more (x.0, v) (remove rows i) rest_once rest_gone)

    pub sorted_set : (v : V) → sorted (set rows i (x.0, v)) ≡ with (sorted rows) x.0 v
    sorted_set v =
        sorted_permutation (set rows i (x.0, v)) ((x.0, v) ∷ remove rows i) (written v) (once_set v)
        ∙ (sym (with_with (sorted (remove rows i)) x.0 x.1 v (ascending_sorted (remove rows i))) ∙ ap (λ m. with m x.0 v) (sym (sorted_permutation rows (x ∷ remove rows i) parted once)))

    swapped : IsPermutation rows (x ∷ swap_remove rows i x)
    swapped = IsPermutation-swap_remove rows i x in_range read

    pub once_swap_remove : AreOnce (swap_remove rows i x)
    once_swap_remove = once_tail x (swap_remove rows i x) (once_permutation rows (x ∷ swap_remove rows i x) swapped once)

    pub sorted_swap_remove : sorted (swap_remove rows i x) ≡ without (sorted rows) x.0
    sorted_swap_remove =
        let rest = swap_remove rows i x in
        let gone = once_gone x rest (once_permutation rows (x ∷ rest) swapped once) in
        sym (ap (λ m. without m x.0) (sorted_permutation rows (x ∷ rest) swapped once) ∙ without_with (sorted rest) x.0 x.1 (ascending_sorted rest) (find_sorted rest x.0 ∙ gone))

-- the map has the rows
module _ {V : Type 0} where
  nothing : (b c : Bool) (o : Option V) → o ≡ None → cond b o None ≡ cond c o None
  nothing true true o e = refl
  nothing true false o e = e
  nothing false true o e = sym e
  nothing false false o e = refl

  -- of an absent key, what is above is what isn't below
  above_same : (m : Pairs V) (key : List ℕ) → IsMap m → find m key ≡ None → keep (λ k. is_below key k) m ≡ keep (λ k. not (is_below k key)) m
  above_same m key up gone = same_map _ _ (ascending_keep (λ k. is_below key k) m up) (ascending_keep (λ k. not (is_below k key)) m up) (λ j.
      find_keep (λ k. is_below key k) m j ∙ (elim (placed key j) [
        | less h ↦ ap (λ b. cond b (find m j) None) h ∙ sym (ap (λ b. cond (not b) (find m j) None) (below_not_back key j h))
        | same h ↦ nothing (is_below key j) (not (is_below j key)) (find m j) (subst (λ k. find m k ≡ None) h gone)
        | more h ↦ ap (λ b. cond b (find m j) None) (below_not_back j key h) ∙ sym (ap (λ b. cond (not b) (find m j) None) h)
      ] ∙ sym (find_keep (λ k. not (is_below k key)) m j)))

  with_same : (m : Pairs V) (key : List ℕ) (v : V) → IsMap m → find m key ≡ None → IsPermutation ((key, v) ∷ m) (with m key v)
  with_same m key v up gone =
      let lows = keep (λ k. is_below k key) m in
      let highs = keep (λ k. is_below key k) m in
      let whole : lows ++ highs ≡ m = ap (λ t. lows ++ t) (above_same m key up gone) ∙ keep_cut key m up in
      subst (λ t. IsPermutation ((key, v) ∷ t) (with m key v)) whole (IsPermutation-sym (lows ++ (key, v) ∷ highs) ((key, v) ∷ (lows ++ highs)) (IsPermutation-middle lows (key, v) highs))

  pub sorted_same : (rows : Pairs V) → AreOnce rows → IsPermutation rows (sorted rows)
  sorted_same [] once = IsPermutation-refl []
  sorted_same (x ∷ rows) once = IsPermutation-trans (x ∷ rows) (x ∷ sorted rows) (sorted (x ∷ rows)) (IsPermutation-cons x rows (sorted rows) (sorted_same rows (once_tail x rows once)))
      (with_same (sorted rows) x.0 x.1 (ascending_sorted rows) (find_sorted rows x.0 ∙ once_gone x rows once))

  pub length-sorted : (rows : Pairs V) → AreOnce rows → length (sorted rows) ≡ length rows
  length-sorted rows once = length_permutation rows (sorted rows) (sorted_same rows once)

  empty_rows : (rows : Pairs V) → length rows ≡ 0 → rows ≡ []
  empty_rows [] e = refl
  empty_rows (x ∷ rows) e = absurd (omega arith)

  -- no pairs, no rows
  pub sorted_nothing : (rows : Pairs V) → AreOnce rows → sorted rows ≡ [] → rows ≡ []
  sorted_nothing rows once none = let e = length-sorted rows once in let z : length (sorted rows) ≡ 0 = ap length none in empty_rows rows (omega arith)

-- a leaf's value in place of what its fields say
module _ {V : Type 0} (m n : LeafMap V) (e : m ≡ n) where
  pub seen_length : (k : ℕ) → k ≡ length m.map → k ≡ length n.map
  seen_length k f = subst (λ (s : LeafMap V). k ≡ length s.map) e f

  pub seen_ascends : IsMap m.map → IsMap n.map
  seen_ascends h = subst (λ (s : LeafMap V). IsMap s.map) e h
