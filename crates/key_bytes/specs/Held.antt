-- The bytes of a key, wherever they lie.
use Rattle.std.specs.Prelude.{ℕ, List}
use Rattle.key_bytes.specs.declared.key.Held.{Held}
use Rattle.key_bytes.specs.declared.key.Held.TheVariants.{Few, Many}

abbrev pub held_bytes : Held → List ℕ
held_bytes (Few bytes) = bytes
held_bytes (Many bytes) = bytes.items
