-- What a summary of a text tells.
use Rattle.std.specs.Prelude.{ℕ, ◌==◌, Bool, List, [], ◌∷◌, ◌++◌, codes, if◌then◌else◌}
use Rattle.std.specs.List.{count_by, flat_map}
use Rattle.std.specs.Str.{bytes_eq}
use Rattle.line_protocol.specs.ReplyLine.{number_line}

-- the lines that end in LF, where a beginning of the first one stands before them
abbrev pub lines_behind : List ℕ → List ℕ → List (List ℕ)
lines_behind start [] = []
lines_behind start (b ∷ bytes) = if b == 10 then start ∷ lines_behind [] bytes else lines_behind (start ++ b ∷ []) bytes

-- the bytes before the first space
abbrev pub first_word : List ℕ → List ℕ
first_word [] = []
first_word (b ∷ bytes) = if b == 32 then [] else b ∷ first_word bytes

-- the first word is this one
abbrev pub has_word : List ℕ → List ℕ → Bool
has_word word line = bytes_eq (first_word line) word

-- how many lines of a text have this first word
abbrev pub counted : List ℕ → List ℕ → ℕ
counted word text = count_by (has_word word) (lines_behind [] text)

-- the first words that are told of
abbrev pub told_words : List (List ℕ)
told_words = codes "NEW" ∷ codes "SET" ∷ codes "VALUE" ∷ codes "NONE" ∷ codes "GONE" ∷ codes "PAIR" ∷ codes "END" ∷ codes "FULL" ∷ codes "NOMEM" ∷ []

-- how many requests were made, and how many lines of their output have each of the first words
abbrev pub summary : ℕ → List ℕ → List ℕ
summary requests output = number_line (codes "LINES") (requests ∷ []) ++ flat_map (λ (word : List ℕ). number_line word (counted word output ∷ [])) told_words
