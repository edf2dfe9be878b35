-- The halves of a map, and the key that parts them.
use Rattle.std.specs.Prelude.{ℕ, ◌+◌, ◌-◌, ◌/◌, List, [], length, map, take, drop, slice_index_or}
use Rattle.key_bytes.specs.Common.{lcp}
use Rattle.map_model.specs.Maps.{Pairs}

-- the keys alone
abbrev pub keys_of : {V : Type 0} → Pairs V → List (List ℕ)
keys_of {V} pairs = map (λ (p : List ℕ × V). p.0) pairs

-- the same keys with other values
abbrev pub map_values : {V W : Type 0} → (V → W) → Pairs V → Pairs W
map_values {V} {W} f pairs = map (λ (p : List ℕ × V). (p.0, f p.1)) pairs

-- the key at a place
abbrev pub key_at : {V : Type 0} → Pairs V → ℕ → List ℕ
key_at pairs i = slice_index_or (keys_of pairs) i []

-- how many of so many pairs are the lower half, which is the greater one of an odd number
abbrev pub stay_count : ℕ → ℕ
stay_count n = (n + 1) / 2

-- the pairs that stay where a map is halved
abbrev pub lower_half : {V : Type 0} → Pairs V → Pairs V
lower_half pairs = take (stay_count (length pairs)) pairs

-- and those that go
abbrev pub upper_half : {V : Type 0} → Pairs V → Pairs V
upper_half pairs = drop (stay_count (length pairs)) pairs

-- the shortest beginning of one key that is above another, lower one
abbrev pub between_keys : List ℕ → List ℕ → List ℕ
between_keys low high = take (lcp low high + 1) high

-- the key that parts the halves: the shortest beginning of the first key of the upper one that is above the last key of the lower one
abbrev pub parting : {V : Type 0} → Pairs V → List ℕ
parting pairs = between_keys (key_at pairs (stay_count (length pairs) - 1)) (key_at pairs (stay_count (length pairs)))
