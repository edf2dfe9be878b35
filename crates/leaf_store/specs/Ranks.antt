-- The places of rows in the order of their keys.
use Rattle.std.specs.Prelude.{◌≡◌, ℕ, ◌<◌, List, length, map, slice_index_or}
use Rattle.std.specs.List.{range_with_len}
use Rattle.std.specs.List.Sorted.{IsPermutation}
use Rattle.map_model.specs.Maps.{Pairs, sorted}

-- this is the key of the row at the place
pub record HasKey {V : Type 0} (rows : Pairs V) (key : List ℕ) (place : ℕ) : Type 0 where
  pub in_range : place < length rows
  pub same : (d : List ℕ × V) → key ≡ (slice_index_or rows place d).0

-- the places of the rows, by ascending keys
pub record IsOrder {V : Type 0} (rows : Pairs V) (order : List ℕ) : Type 0 where
  pub places : IsPermutation (range_with_len 0 (length rows)) order
  pub ascending : (d : List ℕ × V) → sorted rows ≡ map (λ p. slice_index_or rows p d) order

-- the place of each row among the same rows in another order
pub record AreRanks {V : Type 0} (rows : Pairs V) (ranks : List ℕ) (all : Pairs V) : Type 0 where
  pub size : length all ≡ length rows
  pub places : IsPermutation (range_with_len 0 (length rows)) ranks
  pub placed : (d : List ℕ × V) → rows ≡ map (λ r. slice_index_or all r d) ranks
