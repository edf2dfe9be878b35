-- Words in two parts: the lower 16 bits, and the rest.
use Rattle.std.specs.Prelude.{ℕ, ◌+◌, ◌*◌, List, length, map, slice_index}
use Rattle.std.specs.List.{range_with_len}

-- the word of which these are the parts at a place
abbrev pub from_parts_at : List ℕ → List ℕ → ℕ → ℕ
from_parts_at low high i = slice_index low i + slice_index high i * 65536

-- as many words as there are low parts
abbrev pub from_parts : List ℕ → List ℕ → List ℕ
from_parts low high = map (from_parts_at low high) (range_with_len 0 (length low))
