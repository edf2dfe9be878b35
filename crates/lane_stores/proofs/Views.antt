-- What holds of each view, where one of them, or two, change.
use Rattle.std.proofs.Common.{◌≡◌, ◌≢◌, ◌⊎◌, ℕ, zero, suc, ◌<◌, List, [], ◌∷◌, ◌++◌, length, set, refl, sym, ap, ◌∙◌, subst, inl, inr, ⊎_elim, arith, length-set}
use mathlib.Core.Option.{some, some-injective, some-ne-none}
use lib.ListN.{get_elem?}
use Rattle.atomic_table.proofs.Lists.{at_set}
use Rattle.lane_stores.specs.declared.view.View.{View}

pub at_below : (l : List View) (i : ℕ) (v : View) → get_elem? l i ≡ some v → i < length l
at_below [] i v at = absurd (some-ne-none v (sym at))
at_below (x ∷ xs) zero v at = omega arith
at_below (x ∷ xs) (suc i) v at = omega (arith, at_below xs i v at)

at_end : (l : List View) (w u : View) (i : ℕ) → get_elem? (l ++ w ∷ []) i ≡ some u → (get_elem? l i ≡ some u) ⊎ ((i ≡ length l) × (w ≡ u))
at_end [] w u zero at = inr (refl, some-injective w u at)
at_end [] w u (suc i) at = absurd (some-ne-none u (sym at))
at_end (x ∷ xs) w u zero at = inl at
at_end (x ∷ xs) w u (suc i) at = ⊎_elim (λ here. inl here) (λ (end : (i ≡ length xs) × (w ≡ u)). inr (ap suc end.0, end.1)) (at_end xs w u i at)

module _ (P : ℕ → View → Type 0) where
  pub each_set : (l : List View) (j : ℕ) (w : View) → P j w → ((i : ℕ) (u : View) → i ≢ j → get_elem? l i ≡ some u → P i u) → (i : ℕ) (u : View) → get_elem? (set l j w) i ≡ some u → P i u
  each_set l j w here others i u at =
      ⊎_elim
      (λ (x : (i ≡ j) × (w ≡ u)). subst (λ (y : ℕ × View). P y.0 y.1) (λ k. (sym x.0 k, x.1 k)) here)
      (λ (x : (i ≢ j) × (get_elem? l i ≡ some u)). others i u x.0 x.1)
      (at_set l j i w u at)

  pub each_split : (l : List View) (j : ℕ) (w new : View) → P j w → ((i : ℕ) (u : View) → i ≢ j → get_elem? l i ≡ some u → P i u) → P (length l) new → (i : ℕ) (u : View) → get_elem? (set l j w ++ new ∷ []) i ≡ some u → P i u
  each_split l j w new here others there i u at =
      ⊎_elim
      (each_set l j w here others i u)
      (λ (x : (i ≡ length (set l j w)) × (new ≡ u)). subst (λ (y : ℕ × View). P y.0 y.1) (λ k. (sym (x.0 ∙ length-set l j w) k, x.1 k)) there)
      (at_end (set l j w) new u i at)

pub each_join : (P : ℕ → View → Type 0) (l : List View) (j other : ℕ) (w spent : View) → P j w → P other spent → ((i : ℕ) (u : View) → i ≢ j → i ≢ other → get_elem? l i ≡ some u → P i u) → (i : ℕ) (u : View) → get_elem? (set (set l j w) other spent) i ≡ some u → P i u
each_join P l j other w spent here there others = each_set P (set l j w) other spent there
    (λ i u apart at. each_set (λ a b. a ≢ other → P a b) l j w (λ _. here) (λ a b ne at' ne'. others a b ne ne' at') i u at apart)
