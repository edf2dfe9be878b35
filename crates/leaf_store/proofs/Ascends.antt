-- Rows that were sorted ascend, where no key stands twice.
use Rattle.std.proofs.Common.{◌≡◌, ℕ, suc, ◌<◌, ◌≤◌, List, [], ◌∷◌, Bool, true, false, subst, length, get_or, arith, inl, inr}
use Rattle.std.specs.Cmp.{IsStrictWeakOrder}
use Rattle.std.specs.List.Sorted.{IsSortedBy}
use Rattle.std.proofs.lemmas.Cmp.{nat_list_cmp_total}
use Rattle.std.proofs.lemmas.List.Elements.{recursion_from_All}
use Rattle.std.proofs.lemmas.List.Sorted.{ranks_by, sorted_far}
use Rattle.key_bytes.specs.Order.{is_below}
use Rattle.map_model.specs.Maps.{Pairs, IsMap}
use Rattle.key_bytes.proofs.Orders.{not_below_cases}
use Rattle.leaf_store.specs.Rows.{many, AreOnce}
use Rattle.leaf_store.proofs.Unsorted.{many_here, many_at, once_tail}

module _ {V : Type 0} where
  abbrev pub by_key : List ℕ × V → List ℕ × V → Bool
  by_key x y = is_below x.0 y.0

  pub by_key_order : IsStrictWeakOrder by_key
  by_key_order = ranks_by nat_list_cmp_total (λ (p : List ℕ × V). p.0)

  ascends : (rows : Pairs V) → AreOnce rows → ((i j : ℕ) (d : List ℕ × V) → i ≤ j → j < length rows → is_below (get_or rows j d).0 (get_or rows i d).0 ≡ false) → IsMap rows
  ascends [] once far = tt
  ascends (x ∷ rows) once far = (
    recursion_from_All (λ (q : List ℕ × V). is_below x.0 q.0 ≡ true) rows (λ k d lt. elim (not_below_cases (get_or rows k d).0 x.0 (far 0 (suc k) d (omega arith) (omega arith))) [
      | inl same ↦
          let m = subst (λ key. 0 < many key rows) same (many_at rows k d lt) in
          let h = once x.0 in
          let e = many_here x rows in
          absurd (omega arith)
      | inr above ↦ above
    ]),
    ascends rows (once_tail x rows once) (λ i j d le lt. far (suc i) (suc j) d (omega arith) (omega arith)),
  )

  pub sorted_ascends : (rows : Pairs V) → AreOnce rows → IsSortedBy by_key rows → IsMap rows
  sorted_ascends rows once up = ascends rows once (sorted_far by_key by_key_order rows up)
