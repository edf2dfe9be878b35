-- Pairs with other places, and a list that was written over.
use Rattle.std.proofs.Common.{◌≡◌, ℕ, ◌+◌, ◌<◌, ◌≤◌, List, length, get_or, ◌++◌, map, set, take, drop, ◌≢◌, get_or-set_other, get_or-set_same, below_more, sym, ap, ◌∙◌, arith}
use Rattle.std.specs.List.{Contains}
use Rattle.std.proofs.lemmas.List.{length-map, get_or-map, get_or_default, same_lists, take_all, drop_all, append-nil}
use Rattle.std.proofs.lemmas.List.Elements.{Contains-get_or}
use Rattle.leaf_tags.specs.Tags.{IsByTag, IsTagList, renumbered}

module _ (places : List ℕ) where
  one : ℕ × ℕ → ℕ × ℕ
  one p = (p.0, get_or places p.1 0)

  -- their tags ascend as before
  renumbered_rises : (xs : List (ℕ × ℕ)) → IsByTag xs → IsByTag (renumbered places xs)
  unfolding one
  renumbered_rises xs up i j d le lt =
      let up' = up in
      let size : length (map one xs) ≡ length xs = length-map xs one in
      let a : (get_or (map one xs) i d).0 ≡ (get_or xs i d).0 = ap (λ (p : ℕ × ℕ). p.0) (get_or-map one xs i d d (omega arith)) in
      let b : (get_or (map one xs) j d).0 ≡ (get_or xs j d).0 = ap (λ (p : ℕ × ℕ). p.0) (get_or-map one xs j d d (omega arith)) in
      let rise : (get_or xs i d).0 ≤ (get_or xs j d).0 = up' i j d le (omega arith) in
      omega arith

  pub renumbered_keeps : (xs : List (ℕ × ℕ)) → IsTagList xs → IsTagList (renumbered places xs)
  unfolding one
  renumbered_keeps xs is = record {
    rises = renumbered_rises xs is.rises;
    few = omega (arith, is.few, length-map xs one);
  }

  -- one pair more has its other place
  pub renumbered_more : (xs ys : List (ℕ × ℕ)) (i place : ℕ) → i < length xs → i < length ys → place ≡ (get_or ys i (0, 0)).1 → ((d : ℕ × ℕ) → get_or ys i d ≡ get_or xs i d) → ((k : ℕ) (d : ℕ × ℕ) → k < i → get_or ys k d ≡ ((get_or xs k d).0, get_or places (get_or xs k d).1 0)) → (k : ℕ) (d : ℕ × ℕ) → k < i + 1 → get_or (set ys i ((get_or ys i (0, 0)).0, get_or places place 0)) k d ≡ ((get_or xs k d).0, get_or places (get_or xs k d).1 0)
  renumbered_more xs ys i place in_xs in_ys read here before k d lt =
      let y : ℕ × ℕ = get_or ys i (0, 0) in
      below_more (λ n. (e : ℕ × ℕ) → get_or (set ys i (y.0, get_or places place 0)) n e ≡ ((get_or xs n e).0, get_or places (get_or xs n e).1 0)) i
      (λ n h e. let ne : n ≢ i = omega arith in rw get_or-set_other (before n e h))
      (λ e. get_or-set_same ys i (y.0, get_or places place 0) e in_ys ∙ (ap (λ n. (y.0, get_or places n 0)) read ∙ ap (λ (p : ℕ × ℕ). (p.0, get_or places p.1 0)) (here (0, 0) ∙ get_or_default xs i (0, 0) e in_xs))) k lt d

  -- a list is known by its pairs
  pub renumbered_pairs : (xs ys : List (ℕ × ℕ)) → length ys ≡ length xs → ((k : ℕ) (d : ℕ × ℕ) → k < length xs → get_or ys k d ≡ ((get_or xs k d).0, get_or places (get_or xs k d).1 0)) → ys ≡ renumbered places xs
  unfolding one
  renumbered_pairs xs ys size each =
      same_lists ys (map one xs) (size ∙ sym (length-map xs one)) (λ k d lt. each k d (omega arith) ∙ sym (get_or-map one xs k d d (omega arith)))

-- each place in a list of pairs is below a bound of them all
pub place_below : (xs : List (ℕ × ℕ)) (count : ℕ) → ((tag place : ℕ) → Contains xs (tag, place) → place < count) → (i : ℕ) (d : ℕ × ℕ) → i < length xs → (get_or xs i d).1 < count
place_below xs count below i d lt = below (get_or xs i d).0 (get_or xs i d).1 (Contains-get_or xs i d lt)

-- what a list of its length leaves of another that it is written over
pub written_over : (old new : List (ℕ × ℕ)) (n : ℕ) → length old ≡ length new → length new ≤ n → take n (new ++ drop (length new) old) ≡ new
written_over old new n size le = ap (λ zs. take n (new ++ zs)) (drop_all (length new) old (omega arith)) ∙ (ap (take n) (append-nil new) ∙ take_all n new le)
