-- The pairs whose places are from a number on, and the others.
use Rattle.std.proofs.Common.{◌≡◌, ℕ, ◌+◌, ◌-◌, ◌<◌, ◌≤◌, List, [], ◌∷◌, ◌++◌, Bool, true, false, cond, not, nat_lt, length, get_or, take, drop, map, take-append-drop, length-append, sym, ap, ◌∙◌, arith}
use Rattle.std.specs.Prelude.{filter}
use Rattle.std.proofs.lemmas.List.{append-nil, length-map, get_or-map, map-append, take_more}
use Rattle.std.proofs.lemmas.List.Elements.{filter-append}
use Rattle.std.proofs.lemmas.List.Kept.{IsNonDecreasingBy-filter}
use Rattle.std.proofs.lemmas.List.Sums.{length-filter, count_by-le-length}
use Rattle.leaf_tags.specs.Tags.{IsByTag, IsTagList, places_below, places_from}

kept_few : (test : ℕ × ℕ → Bool) (xs : List (ℕ × ℕ)) → length xs ≤ 65536 → length (filter test xs) ≤ 65536
kept_few test xs few = omega (arith, length-filter test xs, count_by-le-length test xs)

module _ (count : ℕ) where
  is_from : ℕ × ℕ → Bool
  is_from p = not (nat_lt p.1 count)

  less : ℕ × ℕ → ℕ × ℕ
  less p = (p.0, p.1 - count)

  -- their tags ascend as before
  from_rises : (xs : List (ℕ × ℕ)) → IsByTag xs → IsByTag (places_from count xs)
  unfolding is_from less
  from_rises xs up i j d le lt =
      let kept : List (ℕ × ℕ) = filter is_from xs in
      let size : length (map less kept) ≡ length kept = length-map kept less in
      let up' : IsByTag kept = IsNonDecreasingBy-filter (λ (p : ℕ × ℕ). p.0) is_from xs up in
      let a : (get_or (map less kept) i d).0 ≡ (get_or kept i d).0 = ap (λ (p : ℕ × ℕ). p.0) (get_or-map less kept i d d (omega arith)) in
      let b : (get_or (map less kept) j d).0 ≡ (get_or kept j d).0 = ap (λ (p : ℕ × ℕ). p.0) (get_or-map less kept j d d (omega arith)) in
      let rise : (get_or kept i d).0 ≤ (get_or kept j d).0 = up' i j d le (omega arith) in
      omega arith

  pub from_keeps : (xs : List (ℕ × ℕ)) → IsTagList xs → IsTagList (places_from count xs)
  unfolding is_from less
  from_keeps xs is = record {
    rises = from_rises xs is.rises;
    few = omega (arith, length-map (filter is_from xs) less, kept_few is_from xs is.few);
  }

  pub below_keeps : (xs : List (ℕ × ℕ)) → IsTagList xs → IsTagList (places_below count xs)
  below_keeps xs is = record {
    rises = IsNonDecreasingBy-filter (λ (p : ℕ × ℕ). p.0) (λ (p : ℕ × ℕ). nat_lt p.1 count) xs is.rises;
    few = kept_few (λ (p : ℕ × ℕ). nat_lt p.1 count) xs is.few;
  }

  from_append : (xs ys : List (ℕ × ℕ)) → places_from count (xs ++ ys) ≡ places_from count xs ++ places_from count ys
  unfolding is_from less
  from_append xs ys = ap (map less) (filter-append is_from xs ys) ∙ map-append less (filter is_from xs) (filter is_from ys)

  from_one : (x : ℕ × ℕ) (b : Bool) → nat_lt x.1 count ≡ b → places_from count (x ∷ []) ≡ cond b [] ((x.0, x.1 - count) ∷ [])
  from_one x true e = ap (λ t. map (λ (p : ℕ × ℕ). (p.0, p.1 - count)) (cond (not t) (x ∷ []) [])) e
  from_one x false e = ap (λ t. map (λ (p : ℕ × ℕ). (p.0, p.1 - count)) (cond (not t) (x ∷ []) [])) e

  module _ (xs : List (ℕ × ℕ)) (i : ℕ) (x : ℕ × ℕ) (lt : i < length xs) (read : x ≡ get_or xs i x) where
    next : (b : Bool) → nat_lt x.1 count ≡ b → places_from count (take (i + 1) xs) ≡ places_from count (take i xs) ++ cond b [] ((x.0, x.1 - count) ∷ [])
    next b e = ap (places_from count) (take_more xs i x lt ∙ ap (λ y. take i xs ++ y ∷ []) (sym read)) ∙ (from_append (take i xs) (x ∷ []) ∙ ap (λ l. places_from count (take i xs) ++ l) (from_one x b e))

    -- one pair more
    pub from_passed : nat_lt x.1 count ≡ false → places_from count (take (i + 1) xs) ≡ places_from count (take i xs) ++ (x.0, x.1 - count) ∷ []
    from_passed e = next false e

    pub from_skipped : nat_lt x.1 count ≡ true → places_from count (take (i + 1) xs) ≡ places_from count (take i xs)
    from_skipped e = next true e ∙ append-nil (places_from count (take i xs))

    -- leaves room for it
    pub from_room : nat_lt x.1 count ≡ false → length (places_from count (take i xs)) + 1 ≤ length (places_from count xs)
    from_room e =
        let whole : length (places_from count xs) ≡ length (places_from count (take (i + 1) xs)) + length (places_from count (drop (i + 1) xs)) =
        ap (λ l. length (places_from count l)) (sym (take-append-drop (i + 1) xs)) ∙ (ap length (from_append (take (i + 1) xs) (drop (i + 1) xs)) ∙ length-append (places_from count (take (i + 1) xs)) (places_from count (drop (i + 1) xs))) in
        let more : length (places_from count (take (i + 1) xs)) ≡ length (places_from count (take i xs)) + 1 = ap length (from_passed e) ∙ length-append (places_from count (take i xs)) ((x.0, x.1 - count) ∷ []) in
        omega arith
