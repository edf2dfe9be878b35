-- What a binary search finds among ascending pairs.
use Rattle.std.proofs.Common.{◌≡◌, ℕ, ◌+◌, ◌<◌, List, [], ◌∷◌, ◌++◌, true, Result, Ok, Err, IfOk, IfErr, sym, ap, ◌∙◌, subst, arith, length, get_or, take, drop, take-append-drop, add-one, set, Some, None}
use Rattle.std.specs.declared.cmp.Ordering.TheVariants.{Equal, Greater}
use Rattle.std.specs.Ordering.{is_lt, ordering_index, ordering_reverse}
use Rattle.std.specs.FinMap.{slice_cmp-IsAntisymmetric, nat_cmp-IsAntisymmetric}
use Rattle.std.specs.List.Sorted.{IsSearchInRange, IsBinarySearchResult, IsNonDecreasingBy}
use Rattle.std.specs.List.{insert, remove}
use Rattle.std.proofs.lemmas.List.{drop_more, get_or_at, length-take-le, set_split}
use Rattle.std.proofs.lemmas.List.Sorted.{searchable_from_sorted}
use Rattle.std.proofs.lemmas.Cmp.{nat_list_cmp_total}
use Rattle.key_bytes.specs.Order.{bytes_cmp, is_below}
use Rattle.map_model.specs.Places.{Pair}
use Rattle.map_model.specs.Maps.{Pairs, IsMap, find, with, without}
use Rattle.map_model.specs.Places.{IsAt, IsGapFor}
use Rattle.key_bytes.proofs.Orders.{below_not_back}
use Rattle.map_model.proofs.Filters.{all_take, all_drop}
use Rattle.map_model.proofs.AroundKeys.{ascending_at, below_middle, above_middle, find_absent, find_present, with_absent, with_present, without_absent, without_present}

module _ (m : Pairs (List ℕ)) (up : IsMap m) (k : List ℕ) where
  whole_at : (i : ℕ) (d : Pair) → i < length m → m ≡ take i m ++ get_or m i d ∷ drop (i + 1) m
  whole_at i d lt = sym (take-append-drop i m) ∙ ap (λ xs. take i m ++ xs) (drop_more m i d lt)

  is_at : (i : ℕ) → i < length m → ((d : Pair) → bytes_cmp (get_or m i d).0 k ≡ Equal) → IsAt m k i
  is_at i lt equal =
      let d : Pair = ([], []) in
      let value = (get_or m i d).1 in
      let has : (get_or m i d).0 ≡ k = slice_cmp-IsAntisymmetric nat_cmp-IsAntisymmetric _ _ (equal d) in
      let whole : m ≡ take i m ++ (k, value) ∷ drop (i + 1) m = whole_at i d lt ∙ ap (λ (key : List ℕ). take i m ++ (key, value) ∷ drop (i + 1) m) has in
      let up' = subst IsMap whole up in
      record { in_range = lt; value = value; whole = whole; lower = below_middle (take i m) (k, value) (drop (i + 1) m) up'; upper = above_middle (take i m) (k, value) (drop (i + 1) m) up' }

  -- the comparisons with the key rise, as a binary search asks
  rise : IsNonDecreasingBy (λ (p : Pair). ordering_index (bytes_cmp p.0 k)) m
  rise = searchable_from_sorted nat_list_cmp_total (λ (p : Pair). p.0) m k (λ i d _ lt. below_not_back (get_or m i d).0 (get_or m (i + 1) d).0 (ascending_at m up i (i + 1) d (omega arith) lt))

  greater_is_above : (key : List ℕ) → bytes_cmp key k ≡ Greater → is_below k key ≡ true
  greater_is_above key e = ap is_lt (nat_list_cmp_total.antisymm k key ∙ ap ordering_reverse e)

  pub searched : (r : Result ℕ ℕ) → IsSearchInRange r (length m) → IsBinarySearchResult (λ (p : Pair). bytes_cmp p.0 k) m r → record { at : IfOk r (IsAt m k); gap : IfErr r (IsGapFor m k) }
  searched (Ok i) in_range equal = record { at = is_at i in_range equal; gap = tt }
  searched (Err i) in_range parted = record {
    at = tt;
    gap = record {
      in_range = in_range;
      lower = all_take (λ (p : Pair). is_below p.0 k ≡ true) m i (λ j d lt. ap is_lt ((parted rise).0 j d (omega arith) lt));
      upper = all_drop (λ (p : Pair). is_below k p.0 ≡ true) m i (λ j d le lt. greater_is_above _ ((parted rise).1 j d le lt));
    };
  }

-- the parts of the list at a gap
parts : (m : Pairs (List ℕ)) (i : ℕ) → m ≡ take i m ++ drop i m
parts m i = sym (take-append-drop i m)

module _ (m : Pairs (List ℕ)) (k : List ℕ) (i : ℕ) (gap : IsGapFor m k i) where
  pub find_gap : find m k ≡ None
  find_gap = ap (λ p. find p k) (parts m i) ∙ find_absent (take i m) (drop i m) k gap.lower gap.upper

  pub with_gap : (v : List ℕ) → insert m i (k, v) ≡ with m k v
  with_gap v = sym (ap (λ p. with p k v) (parts m i) ∙ with_absent (take i m) (drop i m) k gap.lower gap.upper v)

  pub without_gap : without m k ≡ m
  without_gap = ap (λ p. without p k) (parts m i) ∙ (without_absent (take i m) (drop i m) k gap.lower gap.upper ∙ sym (parts m i))

module _ (m : Pairs (List ℕ)) (k : List ℕ) (i : ℕ) (is_at : IsAt m k i) where
  pub find_value : find m k ≡ Some is_at.value
  find_value = ap (λ p. find p k) is_at.whole ∙ find_present (take i m) (drop (i + 1) m) k is_at.lower is_at.upper is_at.value

  -- the pair that an index reads
  pub read_at : (x : Pair) → x ≡ get_or m i x → x ≡ (k, is_at.value)
  read_at x read = read ∙ (ap (λ p. get_or p i x) is_at.whole ∙ get_or_at (take i m) (k, is_at.value) (drop (i + 1) m) x i (length-take-le i m (omega (arith, is_at.in_range))))

  pub find_at : (x : Pair) → x ≡ get_or m i x → find m k ≡ Some x.1
  find_at x read = find_value ∙ ap (λ (p : Pair). Some p.1) (sym (read_at x read))

  pub with_at : (v : List ℕ) → set m i (k, v) ≡ with m k v
  with_at v = set_split m i (k, v) is_at.in_range ∙ (rw (← add-one) (sym (ap (λ p. with p k v) is_at.whole ∙ with_present (take i m) (drop (i + 1) m) k is_at.lower is_at.upper is_at.value v)))

  pub without_at : remove m i ≡ without m k
  without_at = rw (← add-one) (sym (ap (λ p. without p k) is_at.whole ∙ without_present (take i m) (drop (i + 1) m) k is_at.lower is_at.upper is_at.value))

  -- a write through an index into the value alone
  pub written_at : (x : Pair) (v : List ℕ) → x ≡ get_or m i x → set m i (x.0, v) ≡ with m k v
  written_at x v read = ap (λ (p : Pair). set m i (p.0, v)) (read_at x read) ∙ with_at v

-- a pair that was read is at its place
pub is_at_place : (m : Pairs (List ℕ)) → IsMap m → (i : ℕ) (x : Pair) → i < length m → x ≡ get_or m i x → IsAt m x.0 i
is_at_place m up i x lt read =
    let whole : m ≡ take i m ++ x ∷ drop (i + 1) m = sym (take-append-drop i m) ∙ ap (λ xs. take i m ++ xs) (drop_more m i x lt ∙ ap (λ (p : Pair). p ∷ drop (i + 1) m) (sym read)) in
    let up' = subst IsMap whole up in
    record { in_range = lt; value = x.1; whole = whole; lower = below_middle (take i m) x (drop (i + 1) m) up'; upper = above_middle (take i m) x (drop (i + 1) m) up' }
