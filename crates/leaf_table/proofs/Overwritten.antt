-- A value that is written over in a map.
use Rattle.std.proofs.Common.{◌≡◌, ℕ, List, true, false, cond, Some, refl, sym, ◌∙◌, subst}
use Rattle.key_bytes.specs.Order.{is_same}
use Rattle.key_bytes.proofs.Orders.{same_is}
use Rattle.map_model.specs.Maps.{Pairs, IsMap, find, with}
use Rattle.map_model.proofs.Finds.{find_with, ascending_with, same_map}

-- by what it was, nothing changes
pub with_found : {V : Type 0} (m : Pairs V) → IsMap m → (key : List ℕ) (value : V) → find m key ≡ Some value → with m key value ≡ m
with_found m up key value found =
    same_map (with m key value) m (ascending_with m key value up) up (λ j. find_with m key value j
    ∙ elim (is_same key j) as (λ s. is_same key j ≡ s → cond s (Some value) (find m j) ≡ find m j) [
      | true ↦ λ e. subst (λ x. Some value ≡ find m x) (same_is key j e) (sym found)
      | false ↦ λ e. refl
    ] refl)
