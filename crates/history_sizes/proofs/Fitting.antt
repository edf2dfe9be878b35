-- What a history that fits says of the keys, leaves and items that it needs.
use Rattle.std.proofs.Common.{ℕ, ◌+◌, ◌*◌, ◌/◌, ◌<◌, ◌≤◌, List, length, arith, subst, div-mul-le_self, mul-le-mul, mul_comm, le_trans}
use mathlib.Core.List.{IsPrefix}
use Rattle.std.proofs.lemmas.Nat.{le-div}
use Rattle.map_model.specs.History.{Entry, after, IsLegal}
use Rattle.history_sizes.specs.Sizes.{new_keys, longest_new}
use Rattle.history_sizes.specs.Fits.{Fits}
use Rattle.history_sizes.proofs.Bounds.{length_after}
use Rattle.history_sizes.proofs.Rising.{new_keys-begins, longest_new-begins, changes-begins}

-- a quotient rises with what is divided
quotient_rises : (a b h : ℕ) → 0 < h → a ≤ b → a / h ≤ b / h
quotient_rises a b h some le = le-div (a / h) b h some (le_trans (div-mul-le_self a h) le)

module _ (values leaves items soft : ℕ) (some : 2 ≤ soft) where
  half_some : 0 < soft / 2
  half_some = omega arith

  -- the beginnings of a history that fits do too
  pub fits_begins : (h all : List Entry) → IsPrefix h all → Fits values leaves items soft all → Fits values leaves items soft h
  fits_begins h all begins fits =
      let keys = new_keys-begins h all begins in
      let longest = longest_new-begins h all begins in
      let count = quotient_rises (new_keys h) (new_keys all) (soft / 2) half_some keys in
      let product : (new_keys h / (soft / 2)) * longest_new h ≤ (new_keys all / (soft / 2)) * longest_new all = mul-le-mul count longest in
      record {
        changed = omega (arith, fits.changed, changes-begins h all begins);
        live = omega (arith, fits.live, keys);
        split = omega (arith, fits.split, count);
        prefixes = omega (arith, fits.prefixes, product);
      }

  module _ (h : List Entry) (fits : Fits values leaves items soft h) where
    -- there are fewer keys than there may be values
    pub fits_keys : IsLegal h → length (after h) < values
    fits_keys legal = omega (arith, length_after h legal, fits.live)

    -- where the new keys account for so many halves of a split, there is room for one leaf more
    pub fits_leaves : (n : ℕ) → (soft / 2) * n ≤ new_keys h → n < leaves
    fits_leaves n le = let most = le-div n (new_keys h) (soft / 2) half_some (subst (λ m. m ≤ new_keys h) (mul_comm (soft / 2) n) le) in omega (arith, fits.split, most)

    -- and for an item of each prefix of their anchors, where these are no longer than the longest new key
    pub fits_items : (n longest : ℕ) → (soft / 2) * n ≤ new_keys h → longest ≤ longest_new h → 1 + n * longest ≤ items
    fits_items n longest le short =
        let most = le-div n (new_keys h) (soft / 2) half_some (subst (λ m. m ≤ new_keys h) (mul_comm (soft / 2) n) le) in
        let product : n * longest ≤ (new_keys h / (soft / 2)) * longest_new h = mul-le-mul most short in
        omega (arith, fits.prefixes, product)
