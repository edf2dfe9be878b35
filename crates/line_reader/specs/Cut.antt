-- How bytes are cut into lines.
use Rattle.std.specs.Prelude.{◌≡◌, ◌≢◌, All, ℕ, ◌-◌, ◌==◌, Bool, List, [], ◌∷◌, ◌++◌, length, take, map, slice_index, if◌then◌else◌}
use Rattle.std.specs.List.{slice_split}

-- LF ends a line
abbrev pub is_lf : ℕ → Bool
is_lf b = b == 10

-- the bytes without one CR at their end
abbrev pub without_cr : List ℕ → List ℕ
without_cr line = if slice_index line (length line - 1) == 13 then take (length line - 1) line else line

-- the part behind the last LF is a line where the input is ended and it has a byte
abbrev pub last_part : Bool → List ℕ → List (List ℕ)
last_part ended [] = []
last_part ended (b ∷ bytes) = if ended then (b ∷ bytes) ∷ [] else []

-- of the parts round the LFs, those that are lines
abbrev pub line_parts : Bool → List (List ℕ) → List (List ℕ)
line_parts ended [] = []
line_parts ended (part ∷ []) = last_part ended part
line_parts ended (part ∷ next ∷ parts) = part ∷ line_parts ended (next ∷ parts)

-- the lines of these bytes, cut at each LF
abbrev pub lines : List ℕ → Bool → List (List ℕ)
lines bytes ended = map without_cr (line_parts ended (slice_split is_lf bytes))

-- the lines that end in an LF of these bytes, where an open part stands before them
abbrev pub ended_lines : List ℕ → List ℕ → List (List ℕ)
ended_lines part [] = []
ended_lines part (b ∷ bytes) = if is_lf b then without_cr part ∷ ended_lines [] bytes else ended_lines (part ++ b ∷ []) bytes

-- the part behind the last LF
abbrev pub open_part : List ℕ → List ℕ → List ℕ
open_part part [] = part
open_part part (b ∷ bytes) = if is_lf b then open_part [] bytes else open_part (part ++ b ∷ []) bytes

-- the line of a part at the end of input, if it has a byte
abbrev pub last_line : List ℕ → List (List ℕ)
last_line [] = []
last_line (b ∷ bytes) = without_cr (b ∷ bytes) ∷ []

-- no LF is among the bytes
abbrev pub HasNoLf : List ℕ → Type 0
HasNoLf bytes = All (λ b. b ≢ 10) bytes

-- the first LF is the last byte
abbrev pub EndsInFirstLf : List ℕ → Type 0
EndsInFirstLf bytes = (front : List ℕ) × (bytes ≡ front ++ 10 ∷ []) × HasNoLf front
