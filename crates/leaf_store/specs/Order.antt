-- The order of a leaf's rows, as a list of places.
use Rattle.std.specs.Prelude.{◌≡◌, ◌<◌, ◌≤◌, ◌+◌, ℕ, ◌&&◌, ◌⊎◌, Bool, List, [], length, nat_lt}
use Rattle.std.specs.List.{range_with_len}
use Rattle.std.specs.List.Sorted.{IsPermutation, IsSortedBy, IsSortedWithin}
use Rattle.key_bytes.specs.Bound.{is_under}
use Rattle.key_bytes.specs.Order.{is_below}
use Rattle.key_bytes.specs.declared.bound.Bound.{Bound}
use Rattle.map_model.specs.Halves.{key_at}
use Rattle.map_model.specs.Maps.{Pairs, IsMap}

-- all places below the length, each once
abbrev pub ArePlaces : List ℕ → Type 0
ArePlaces order = IsPermutation (range_with_len 0 (length order)) order

-- the key at one place is below that at another
abbrev pub is_earlier : {V : Type 0} → Pairs V → ℕ → ℕ → Bool
is_earlier rows p q = is_below (key_at rows p) (key_at rows q)

-- so many first places are listed by ascending keys
abbrev pub HasFront : {V : Type 0} → Pairs V → List ℕ → ℕ → Type 0
HasFront rows order n = (n ≤ length order) × IsSortedWithin (is_earlier rows) order 0 n

-- one first place less where the index is that of one of them
abbrev pub IsLess : ℕ → ℕ → ℕ → Type 0
IsLess at front less = ((at < front) × (less + 1 ≡ front)) ⊎ ((front ≤ at) × (less ≡ front))

-- the places of all rows, by ascending keys
abbrev pub ListsAll : {V : Type 0} → Pairs V → List ℕ → Type 0
ListsAll rows order = (length order ≡ length rows) × IsSortedBy (is_earlier rows) order

-- the order of the rows is known: no places are listed, and the rows ascend themselves, or the places of all are listed in it
abbrev pub AreInOrder : {V : Type 0} → Pairs V → List ℕ → Type 0
AreInOrder rows order = ((order ≡ []) × IsMap rows) ⊎ ListsAll rows order

-- a row is at the place, and its key is below an end
abbrev pub is_place_under : {V : Type 0} → Pairs V → Bound → ℕ → Bool
is_place_under rows end place = nat_lt place (length rows) && is_under end (key_at rows place)
