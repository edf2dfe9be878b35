-- The tag of a key.
use Rattle.std.specs.Prelude.{ℕ, ◌/◌, ◌^◌, List}
use Rattle.key_bytes.specs.Fnv.{prefix_hash}

-- the first 16 bits of the 64 of a hash
abbrev pub first_bits : ℕ → ℕ
first_bits hash = hash / 2 ^ 48

-- those of the key's hash
unfoldable pub tag_of : ℕ → List ℕ → ℕ
tag_of salt key = first_bits (prefix_hash salt key)
