-- Words of which only the first lie in memory.
use Rattle.std.specs.Prelude.{ℕ, ◌-◌, List, ◌++◌, length, replicate}

-- these words, with zeros behind them up to a count
abbrev pub padded : List ℕ → ℕ → List ℕ
padded words count = words ++ replicate (count - length words) 0
