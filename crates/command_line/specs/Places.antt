-- Where the chosen numbers are kept while words are read.
use Rattle.std.specs.Prelude.{ℕ}
use Rattle.command_line.specs.declared.field.Field.{Field}
use Rattle.command_line.specs.declared.field.Field.TheVariants.{Leaves, Items, Heads, Values, Lanes, Soft, Hard, MergeSum, Salt, Tries, Workers, Sessions}

-- the place of a field among the twelve
abbrev pub place_of : Field → ℕ
place_of Leaves = 0
place_of Items = 1
place_of Heads = 2
place_of Values = 3
place_of Lanes = 4
place_of Soft = 5
place_of Hard = 6
place_of MergeSum = 7
place_of Salt = 8
place_of Tries = 9
place_of Workers = 10
place_of Sessions = 11
