-- The words of a line.
use Rattle.std.specs.Prelude.{ℕ, Bool, ◌==◌, List, [], ◌∷◌, Option, None, Some}
use Rattle.std.specs.List.{slice_split}

-- words are cut at spaces
abbrev pub is_space : ℕ → Bool
is_space b = b == 32

-- the line, cut at each single space
abbrev pub words_of : List ℕ → List (List ℕ)
words_of line = slice_split is_space line

-- the words behind a space, if there is one
abbrev pub words_after : Option (List ℕ) → List (List ℕ)
words_after None = []
words_after (Some rest) = words_of rest

-- the word, where there is just one
abbrev pub one : List (List ℕ) → Option (List ℕ)
one (a ∷ []) = Some a
one _ = None

-- the words, where there are just two
abbrev pub two : List (List ℕ) → Option (List ℕ × List ℕ)
two (a ∷ b ∷ []) = Some (a, b)
two _ = None

-- the words, where there are just three
abbrev pub three : List (List ℕ) → Option (List ℕ × List ℕ × List ℕ)
three (a ∷ b ∷ c ∷ []) = Some (a, b, c)
three _ = None
