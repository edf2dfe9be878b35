-- The key that parts the halves of a map, from the pairs on both sides of the cut.
use Rattle.std.proofs.Common.{◌≡◌, ℕ, ◌+◌, ◌-◌, ◌<◌, List, true, sym, ap, ◌∙◌, subst, length, get_or, take, arith}
use Rattle.key_bytes.specs.Common.{lcp}
use Rattle.key_bytes.specs.Order.{is_below}
use Rattle.map_model.specs.Halves.{key_at, stay_count, between_keys, parting}
use Rattle.map_model.specs.Maps.{Pairs, IsMap}
use Rattle.map_model.proofs.Halves.{key_at-pair, parting_ascends, stay_less}

module _ {V : Type 0} (m : Pairs V) (up : IsMap m) (many : 1 < length m) (i j : ℕ) (low high : List ℕ × V)
    (first : i ≡ stay_count (length m) - 1) (second : j ≡ stay_count (length m)) (at_low : get_or m i low ≡ low) (at_high : get_or m j high ≡ high) where
  low_key : key_at m (stay_count (length m) - 1) ≡ low.0
  low_key =
      let less = stay_less (length m) many in
      ap (key_at m) (sym first) ∙ (key_at-pair m i low (omega arith) ∙ ap (λ (p : List ℕ × V). p.0) at_low)

  high_key : key_at m (stay_count (length m)) ≡ high.0
  high_key =
      let less = stay_less (length m) many in
      ap (key_at m) (sym second) ∙ (key_at-pair m j high (omega arith) ∙ ap (λ (p : List ℕ × V). p.0) at_high)

  pub sides_ascend : is_below low.0 high.0 ≡ true
  sides_ascend = subst (λ a. is_below a high.0 ≡ true) low_key (subst (λ b. is_below (key_at m (stay_count (length m) - 1)) b ≡ true) high_key (parting_ascends m up many))

  pub sides_part : take (lcp low.0 high.0 + 1) high.0 ≡ parting m
  sides_part = sym (ap (λ a. between_keys a (key_at m (stay_count (length m)))) low_key ∙ ap (between_keys low.0) high_key)
