-- How a change of a sorted map is seen between two ends.
use Rattle.std.proofs.Common.{◌≡◌, ℕ, List, Bool, true, false, cond, not, Some, None, Option, refl, sym, ap, ◌∙◌}
use mathlib.Core.Bool.{false≢true}
use Rattle.key_bytes.specs.Order.{is_same}
use Rattle.map_model.specs.Maps.{Pairs, IsMap, find, keep, with, without}
use Rattle.key_bytes.proofs.Orders.{same_is}
use Rattle.map_model.proofs.Finds.{find_keep, find_with, find_without, ascending_keep, ascending_with, same_map}

module _ {V : Type 0} (test : List ℕ → Bool) (m : Pairs V) (up : IsMap m) (key : List ℕ) where
  -- a key that passes is found as before
  pub find_kept : test key ≡ true → find (keep test m) key ≡ find m key
  find_kept e = find_keep test m key ∙ ap (λ b. cond b (find m key) None) e

  swap_with : (j : List ℕ) (value : V) (t : Bool) → test key ≡ t → cond (test j) (cond (is_same key j) (Some value) (find m j)) None ≡ cond t (cond (is_same key j) (Some value) (cond (test j) (find m j) None)) (cond (test j) (find m j) None)
  swap_with j value t e = elim (is_same key j) as (λ s. is_same key j ≡ s → cond (test j) (cond s (Some value) (find m j)) None ≡ cond t (cond s (Some value) (cond (test j) (find m j) None)) (cond (test j) (find m j) None)) [
    | true ↦ λ s. hit t (test j) (sym e ∙ ap test (same_is key j s))
    | false ↦ λ s. elim t as (λ t. cond (test j) (find m j) None ≡ cond t (cond (test j) (find m j) None) (cond (test j) (find m j) None)) [ true ↦ refl | false ↦ refl ]
  ] refl
    where
      hit : (a b : Bool) → a ≡ b → cond b (Some value) None ≡ cond a (Some value) (cond b (find m j) None)
      hit true true q = refl
      hit true false q = absurd (false≢true (sym q))
      hit false true q = absurd (false≢true q)
      hit false false q = refl

  -- a change of a key that passes is that change of what is kept
  pub keep_with : (value : V) → test key ≡ true → keep test (with m key value) ≡ with (keep test m) key value
  keep_with value e = same_map _ _ (ascending_keep test (with m key value) (ascending_with m key value up)) (ascending_with (keep test m) key value (ascending_keep test m up)) (λ j.
      find_keep test (with m key value) j ∙ (ap (λ o. cond (test j) o None) (find_with m key value j) ∙ (swap_with j value true e
      ∙ (ap (λ o. cond (is_same key j) (Some value) o) (sym (find_keep test m j)) ∙ sym (find_with (keep test m) key value j)))))

  -- one of another key leaves what is kept
  pub keep_with_other : (value : V) → test key ≡ false → keep test (with m key value) ≡ keep test m
  keep_with_other value e = same_map _ _ (ascending_keep test (with m key value) (ascending_with m key value up)) (ascending_keep test m up) (λ j.
      find_keep test (with m key value) j ∙ (ap (λ o. cond (test j) o None) (find_with m key value j) ∙ (swap_with j value false e ∙ sym (find_keep test m j))))

  -- a removal, of any key
  pub keep_without : keep test (without m key) ≡ without (keep test m) key
  keep_without = same_map _ _ (ascending_keep test (without m key) (ascending_keep (λ k. not (is_same k key)) m up)) (ascending_keep (λ k. not (is_same k key)) (keep test m) (ascending_keep test m up)) (λ j.
      find_keep test (without m key) j ∙ (ap (λ o. cond (test j) o None) (find_without m key j)
      ∙ (both (test j) (is_same key j) (find m j) ∙ (ap (λ o. cond (is_same key j) None o) (sym (find_keep test m j)) ∙ sym (find_without (keep test m) key j)))))
    where
      both : (a b : Bool) (o : Option V) → cond a (cond b None o) None ≡ cond b None (cond a o None)
      both true b o = refl
      both false true o = refl
      both false false o = refl

  pub keep_without_other : test key ≡ false → keep test (without m key) ≡ keep test m
  keep_without_other e = same_map _ _ (ascending_keep test (without m key) (ascending_keep (λ k. not (is_same k key)) m up)) (ascending_keep test m up) (λ j.
      find_keep test (without m key) j ∙ (ap (λ o. cond (test j) o None) (find_without m key j)
      ∙ (elim (is_same key j) as (λ s. is_same key j ≡ s → cond (test j) (cond s None (find m j)) None ≡ cond (test j) (find m j) None) [
        | true ↦ λ s. gone j (test j) (sym (ap test (same_is key j s)) ∙ e)
        | false ↦ λ s. refl
      ] refl ∙ sym (find_keep test m j))))
    where
      gone : (j : List ℕ) (b : Bool) → b ≡ false → cond b None None ≡ cond b (find m j) None
      gone j true q = absurd (false≢true (sym q))
      gone j false q = refl
