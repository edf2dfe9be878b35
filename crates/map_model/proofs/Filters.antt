-- What a filter keeps, where all or none pass; and what holds of each element.
use Rattle.std.proofs.Common.{◌≡◌, ℕ, List, [], ◌∷◌, ◌++◌, Bool, true, false, refl, ap, ◌∙◌, cond, take, drop, length, get_or, ◌<◌, ◌≤◌, arith, get_or-take, get_or-drop, length-take, length-drop, ◌+◌, add-zero, suc}
use Rattle.std.specs.Prelude.{filter}
use Rattle.std.specs.List.{AllByRecursion}
use Rattle.map_model.specs.Maps.{Pairs, keep}
use Rattle.std.proofs.lemmas.List.Elements.{recursion_from_All, All-from_recursion}

module _ {X : Type 0} (p : X → Bool) where
  pub filter_all : (xs : List X) → AllByRecursion (λ x. p x ≡ true) xs → filter p xs ≡ xs
  filter_all [] all = refl
  filter_all (x ∷ xs) all = ap (λ b. cond b (x ∷ filter p xs) (filter p xs)) all.0 ∙ ap (λ ys. x ∷ ys) (filter_all xs all.1)

  pub filter_none : (xs : List X) → AllByRecursion (λ x. p x ≡ false) xs → filter p xs ≡ []
  filter_none [] all = refl
  filter_none (x ∷ xs) all = ap (λ b. cond b (x ∷ filter p xs) (filter p xs)) all.0 ∙ filter_none xs all.1

  pub filtered_pass : (xs : List X) → AllByRecursion (λ x. p x ≡ true) (filter p xs)
  filtered_pass [] = tt
  filtered_pass (x ∷ xs) =
      let rest = filtered_pass xs in
      elim (p x) as (λ b. p x ≡ b → AllByRecursion (λ x. p x ≡ true) (cond b (x ∷ filter p xs) (filter p xs))) [ true ↦ λ is. (is, rest) | false ↦ λ is. rest ] refl

module _ {X : Type 0} (P : X → Type 0) where
  pub all_filter : (p : X → Bool) (xs : List X) → AllByRecursion P xs → AllByRecursion P (filter p xs)
  all_filter p [] all = tt
  all_filter p (x ∷ xs) all =
      let rest = all_filter p xs all.1 in
      elim (p x) as (λ b. AllByRecursion P (cond b (x ∷ filter p xs) (filter p xs))) [ true ↦ (all.0, rest) | false ↦ rest ]

  pub all_pass : ((x : X) → P x) → (xs : List X) → AllByRecursion P xs
  all_pass each [] = tt
  all_pass each (x ∷ xs) = (each x, all_pass each xs)

  pub all_weaker : (Q : X → Type 0) → ((x : X) → P x → Q x) → (xs : List X) → AllByRecursion P xs → AllByRecursion Q xs
  all_weaker Q weaker [] all = tt
  all_weaker Q weaker (x ∷ xs) all = (weaker x all.0, all_weaker Q weaker xs all.1)

  pub all_append : (xs ys : List X) → AllByRecursion P xs → AllByRecursion P ys → AllByRecursion P (xs ++ ys)
  all_append [] ys front back = back
  all_append (x ∷ xs) ys front back = (front.0, all_append xs ys front.1 back)

  pub all_parts : (xs ys : List X) → AllByRecursion P (xs ++ ys) → AllByRecursion P xs × AllByRecursion P ys
  all_parts [] ys all = (tt, all)
  all_parts (x ∷ xs) ys all = let rest = all_parts xs ys all.1 in ((all.0, rest.0), rest.1)

  -- by places
  pub all_take : (xs : List X) (i : ℕ) → ((j : ℕ) (d : X) → j < i → P (get_or xs j d)) → AllByRecursion P (take i xs)
  all_take xs i each = recursion_from_All P (take i xs) (λ k d lt. let below : k < i = omega (arith, length-take i xs) in rw get_or-take (each k d below))

  pub all_drop : (xs : List X) (i : ℕ) → ((j : ℕ) (d : X) → i ≤ j → j < length xs → P (get_or xs j d)) → AllByRecursion P (drop i xs)
  all_drop xs i each = recursion_from_All P (drop i xs) (λ k d lt. rw get_or-drop (each (i + k) d (omega arith) (omega (arith, length-drop i xs))))

  pub all_at_take : (xs : List X) (i j : ℕ) (d : X) → i ≤ length xs → j < i → AllByRecursion P (take i xs) → P (get_or xs j d)
  all_at_take xs i j d in_range lt all = rw get_or-take at (All-from_recursion P (take i xs) all j d (omega (arith, length-take i xs)))

  pub all_at_drop : (xs : List X) (j : ℕ) (d : X) → j < length xs → AllByRecursion P (drop j xs) → P (get_or xs j d)
  all_at_drop xs j d lt all = rw (get_or-drop, add-zero) at (All-from_recursion P (drop j xs) all 0 d (omega (arith, length-drop j xs)))

  pub all_both : (Q R : X → Type 0) → ((x : X) → P x → Q x → R x) → (xs : List X) → AllByRecursion P xs → AllByRecursion Q xs → AllByRecursion R xs
  all_both Q R both [] p q = tt
  all_both Q R both (x ∷ xs) p q = (both x p.0 q.0, all_both Q R both xs p.1 q.1)

-- no more pairs are kept than there are
pub length_keep : {V : Type 0} (test : List ℕ → Bool) (m : Pairs V) → length (keep test m) ≤ length m
length_keep test [] = omega arith
length_keep test (p ∷ m) = let rest = length_keep test m in elim (test p.0) as (λ b. length (cond b (p ∷ keep test m) (keep test m)) ≤ suc (length m)) [ true ↦ omega arith | false ↦ omega arith ]
