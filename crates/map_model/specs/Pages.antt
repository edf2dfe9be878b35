-- A page of pairs, which lie one behind another in one list of bytes.
use Rattle.std.specs.Prelude.{◌≡◌, ◌≤◌, ℕ, zero, suc, List, [], ◌∷◌, ◌++◌, slice_range}
use Rattle.std.specs.List.{flat_map}
use Rattle.map_model.specs.Maps.{Pairs}

-- the pairs, how many are still wanted, and how many more, and of how many bytes, there is room for
pub record Paged : Type 0 where
  pub pairs : Pairs (List ℕ)
  pub wanted : ℕ
  pub spare_pairs : ℕ
  pub spare_bytes : ℕ

-- there is as much room as before
pub record HasNoLessRoom (old new : Paged) : Type 0 where
  pub for_pairs : old.spare_pairs ≤ new.spare_pairs
  pub for_bytes : old.spare_bytes ≤ new.spare_bytes

-- the pairs behind a place, each by the ends of its key and of its value
abbrev pub cut : List ℕ → ℕ → List (ℕ × ℕ) → Pairs (List ℕ)
cut bytes from [] = []
cut bytes from (end ∷ ends) = (slice_range bytes from end.0, slice_range bytes end.0 end.1) ∷ cut bytes end.1 ends

-- the ends ascend from a place on, and the last is the end of all bytes
abbrev pub AreEnds : ℕ → List (ℕ × ℕ) → ℕ → Type 0
AreEnds from [] len = from ≡ len
AreEnds from (end ∷ ends) len = (from ≤ end.0) × (end.0 ≤ end.1) × (end.1 ≤ len) × AreEnds end.1 ends len

-- where a pair begins: the first at the place, each next at the end of the one before
abbrev pub start_at : ℕ → List (ℕ × ℕ) → ℕ → ℕ
start_at from ends zero = from
start_at from [] (suc i) = from
start_at from (end ∷ ends) (suc i) = start_at end.1 ends i

-- a key, and behind it its value
abbrev pub pair_bytes : List ℕ × List ℕ → List ℕ
pair_bytes pair = pair.0 ++ pair.1

-- the bytes of the pairs, one pair behind another
abbrev pub joined : Pairs (List ℕ) → List ℕ
joined pairs = flat_map pair_bytes pairs
