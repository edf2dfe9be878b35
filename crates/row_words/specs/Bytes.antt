-- Bytes that are packed into words, the first byte lowest.
use Rattle.std.specs.Prelude.{ℕ, ◌+◌, ◌*◌, ◌/◌, ◌%◌, ◌^◌, List, map, slice_index}
use Rattle.std.specs.List.{range_with_len}

-- byte j of the words from a place on
abbrev pub byte_at : List ℕ → ℕ → ℕ → ℕ
byte_at words from j = slice_index words (from + j / 8) / 2 ^ (8 * (j % 8)) % 256

-- the first n bytes
abbrev pub bytes_from : List ℕ → ℕ → ℕ → List ℕ
bytes_from words from n = map (byte_at words from) (range_with_len 0 n)
