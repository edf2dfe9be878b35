-- What a link of a leaf's row names.
use Rattle.std.specs.Prelude.{ℕ, ◌≡◌, ◌+◌, Option, Some, None}

-- no leaf by 0, and else the leaf whose number is one less
abbrev pub IsLinked : ℕ → Option ℕ → Type 0
IsLinked link None = link ≡ 0
IsLinked link (Some leaf) = link ≡ leaf + 1
