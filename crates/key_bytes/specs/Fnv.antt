-- FNV-1a with 64 bits and a salt, as a fold over bytes.
use Rattle.std.specs.Prelude.{ℕ, ◌*◌, ◌%◌, ◌^◌, List, bit_xor}
use Rattle.std.specs.List.{fold}

-- the hash of no bytes
abbrev pub fnv_start : ℕ → ℕ
fnv_start salt = bit_xor 14695981039346656037 salt

-- the hash with one byte more
abbrev pub fnv_step : ℕ → ℕ → ℕ
fnv_step hash byte = bit_xor hash byte * 1099511628211 % 2 ^ 64

-- the hash with these bytes more
unfoldable pub hash_from : ℕ → List ℕ → ℕ
hash_from hash bytes = fold fnv_step hash bytes

-- the hash of these bytes
unfoldable pub prefix_hash : ℕ → List ℕ → ℕ
prefix_hash salt bytes = hash_from (fnv_start salt) bytes
