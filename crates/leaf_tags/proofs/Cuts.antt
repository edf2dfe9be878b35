-- What ascending tags say of each other.
use Rattle.std.proofs.Common.{inl, inr, ◌≡◌, ℕ, ◌+◌, ◌<◌, ◌≤◌, List, ◌∷◌, ◌++◌, length, get_or, take, drop, set, refl, take-append-drop, add-one, sym, ap, ◌∙◌, subst, arith}
use Rattle.std.specs.List.{remove}
use Rattle.std.specs.List.Sorted.{IsPermutation}
use Rattle.std.proofs.lemmas.Bool.{cases_lt}
use Rattle.std.proofs.lemmas.List.{get_or_default, drop_more, set_split}
use Rattle.std.proofs.lemmas.List.Sorted.{IsPermutation-sym, IsPermutation-cons, IsPermutation-trans, IsPermutation-middle, IsPermutation-swap}
use Rattle.std.proofs.lemmas.List.Edits.{get_or-remove_below, get_or-remove_above, length-remove}
use Rattle.leaf_tags.specs.Tags.{IsByTag, IsTagList}

module _ (xs : List (ℕ × ℕ)) (up : IsByTag xs) where
  pub upper_from : (i : ℕ) (x : ℕ × ℕ) (tag : ℕ) → x ≡ get_or xs i x → tag ≤ x.0 → (k : ℕ) (d : ℕ × ℕ) → i ≤ k → k < length xs → tag ≤ (get_or xs k d).0
  upper_from i x tag read le k d ik lt =
      let rise : (get_or xs i x).0 ≤ (get_or xs k x).0 = up i k x ik lt in
      let first : x.0 ≡ (get_or xs i x).0 = ap (λ (p : ℕ × ℕ). p.0) read in
      let same : (get_or xs k x).0 ≡ (get_or xs k d).0 = ap (λ (p : ℕ × ℕ). p.0) (get_or_default xs k x d lt) in
      omega arith

  pub lower_from : (i : ℕ) (x : ℕ × ℕ) (tag : ℕ) → i < length xs → x ≡ get_or xs i x → x.0 < tag → (k : ℕ) (d : ℕ × ℕ) → k < i + 1 → (get_or xs k d).0 < tag
  lower_from i x tag in_range read less k d lt =
      let rise : (get_or xs k x).0 ≤ (get_or xs i x).0 = up k i x (omega arith) in_range in
      let first : x.0 ≡ (get_or xs i x).0 = ap (λ (p : ℕ × ℕ). p.0) read in
      let same : (get_or xs k x).0 ≡ (get_or xs k d).0 = ap (λ (p : ℕ × ℕ). p.0) (get_or_default xs k x d (omega arith)) in
      omega arith

  -- a run that has ended has no later pair of the tag
  pub after_run : (i : ℕ) (x : ℕ × ℕ) (tag : ℕ) → x ≡ get_or xs i x → tag ≤ x.0 → (x.0 ≡ tag → ⊥) → (k : ℕ) (d : ℕ × ℕ) → i ≤ k → k < length xs → (get_or xs k d).0 ≡ tag → ⊥
  after_run i x tag read le other k d ik lt e =
      let rise : x.0 ≤ (get_or xs k d).0 = upper_from i x x.0 read (omega arith) k d ik lt in
      let same : x.0 ≡ tag = omega arith in
      other same

  -- the first pair of a place in a run is the one that was sought
  pub found_pair : (i : ℕ) (x : ℕ × ℕ) (tag place : ℕ) → x ≡ get_or xs i x → x.1 ≡ place → tag ≤ x.0 → (k : ℕ) → i ≤ k → k < length xs → get_or xs k (tag, place) ≡ (tag, place) → (d : ℕ × ℕ) → get_or xs i d ≡ (tag, place)
  found_pair i x tag place read second le k ik lt is d =
      let rise : x.0 ≤ (get_or xs k (tag, place)).0 = upper_from i x x.0 read (omega arith) k (tag, place) ik lt in
      let top : (get_or xs k (tag, place)).0 ≡ tag = ap (λ (p : ℕ × ℕ). p.0) is in
      let first : x.0 ≡ tag = omega arith in
      get_or_default xs i d x (omega arith) ∙ (sym read ∙ (ap (λ a. (a, x.1)) first ∙ ap (λ b. (tag, b)) second))

  pub remove_rises : (i : ℕ) → i < length xs → IsByTag (remove xs i)
  remove_rises i in_range a b d le lt =
      let len = length-remove xs i in_range in
      let up' = up in
      elim (cases_lt a i) [
        | inl ai ↦ elim (cases_lt b i) [
          | inl bi ↦ rw (get_or-remove_below xs i d a ai in_range, get_or-remove_below xs i d b bi in_range) (up' a b d le (omega arith))
          | inr bi ↦ rw (get_or-remove_below xs i d a ai in_range, get_or-remove_above xs i d b bi in_range) (up' a (b + 1) d (omega arith) (omega arith))
        ]
        | inr ai ↦ let bi : i ≤ b = omega arith in rw (get_or-remove_above xs i d a ai in_range, get_or-remove_above xs i d b bi in_range) (up' (a + 1) (b + 1) d (omega arith) (omega arith))
      ]

  -- past a pair of a higher tag no pair has the tag
  pub none_after : (i : ℕ) (x : ℕ × ℕ) (tag place : ℕ) → x ≡ get_or xs i x → tag < x.0 → (k : ℕ) (d : ℕ × ℕ) → i ≤ k → k < length xs → get_or xs k d ≡ (tag, place) → ⊥
  none_after i x tag place read high k d ik lt is =
      let rise : x.0 ≤ (get_or xs k d).0 = upper_from i x x.0 read (omega arith) k d ik lt in
      let top : (get_or xs k d).0 ≡ tag = ap (λ (p : ℕ × ℕ). p.0) is in
      omega arith

  -- and up to a pair of a lower one none has it
  pub none_before : (i : ℕ) (x : ℕ × ℕ) (tag place : ℕ) → i < length xs → x ≡ get_or xs i x → x.0 < tag → (k : ℕ) (d : ℕ × ℕ) → k < i + 1 → get_or xs k d ≡ (tag, place) → ⊥
  none_before i x tag place in_range read low k d lt is =
      let less : (get_or xs k d).0 < tag = lower_from i x tag in_range read low k d lt in
      let top : (get_or xs k d).0 ≡ tag = ap (λ (p : ℕ × ℕ). p.0) is in
      omega arith

pub remove_keeps : (xs : List (ℕ × ℕ)) → IsTagList xs → (i : ℕ) → i < length xs → IsTagList (remove xs i)
remove_keeps xs is i lt = record {
  rises = remove_rises xs is.rises i lt;
  few = omega (arith, is.few, length-remove xs i lt);
}

-- a list with one pair in place of another, and each with the other's pair beside it
pub exchanged : (xs : List (ℕ × ℕ)) (i : ℕ) (x y : ℕ × ℕ) → i < length xs → get_or xs i x ≡ x → IsPermutation (y ∷ xs) (x ∷ set xs i y)
exchanged xs i x y lt at =
    let rest = take i xs ++ drop (i + 1) xs in
    let whole : xs ≡ take i xs ++ x ∷ drop (i + 1) xs = sym (take-append-drop i xs) ∙ ap (λ t. take i xs ++ t) (drop_more xs i x lt ∙ ap (λ p. p ∷ drop (i + 1) xs) at) in
    let written : set xs i y ≡ take i xs ++ y ∷ drop (i + 1) xs = set_split xs i y lt ∙ ap (λ n. take i xs ++ y ∷ drop n xs) (sym (add-one i)) in
    let old : IsPermutation xs (x ∷ rest) = subst (λ l. IsPermutation l (x ∷ rest)) (sym whole) (IsPermutation-middle (take i xs) x (drop (i + 1) xs)) in
    let new : IsPermutation (set xs i y) (y ∷ rest) = subst (λ l. IsPermutation l (y ∷ rest)) (sym written) (IsPermutation-middle (take i xs) y (drop (i + 1) xs)) in
    let both : IsPermutation (y ∷ x ∷ rest) (x ∷ y ∷ rest) = IsPermutation-swap (y ∷ x ∷ rest) (x ∷ y ∷ rest) 0 1 (omega arith) (omega arith) refl in
    IsPermutation-trans (y ∷ xs) (y ∷ x ∷ rest) (x ∷ set xs i y) (IsPermutation-cons y xs (x ∷ rest) old)
    (IsPermutation-trans (y ∷ x ∷ rest) (x ∷ y ∷ rest) (x ∷ set xs i y) both (IsPermutation-cons x (y ∷ rest) (set xs i y) (IsPermutation-sym (set xs i y) (y ∷ rest) new)))
