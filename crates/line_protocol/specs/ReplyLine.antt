-- Lines of words and numbers.
use Rattle.std.specs.Prelude.{◌≡◌, ◌≢◌, ℕ, List, [], ◌∷◌, ◌++◌, length, take, All, decimal, Result, Ok, Err}
use Rattle.std.specs.List.{flat_map}
use Rattle.line_protocol.specs.Escape.{escape}

-- a space and the number
abbrev pub number_word : ℕ → List ℕ
number_word n = 32 ∷ decimal n

-- the front, the numbers and LF
abbrev pub number_line : List ℕ → List ℕ → List ℕ
number_line front numbers = front ++ flat_map number_word numbers ++ 10 ∷ []

-- a space and the bytes with escapes
abbrev pub escaped_word : List ℕ → List ℕ
escaped_word bytes = 32 ∷ escape bytes

-- the front, the words and LF
abbrev pub word_line : List ℕ → List (List ℕ) → List ℕ
word_line front words = front ++ flat_map escaped_word words ++ 10 ∷ []

-- the text was appended, or nothing was
abbrev pub AppendsAll : {T E : Type 0} → Result T E → List ℕ → List ℕ → List ℕ → Type 0
AppendsAll (Ok x) old new text = new ≡ old ++ text
AppendsAll (Err e) old new text = new ≡ old

-- the text was appended, or something was
abbrev pub Appends : {T E : Type 0} → Result T E → List ℕ → List ℕ → List ℕ → Type 0
Appends (Ok x) old new text = new ≡ old ++ text
Appends (Err e) old new text = take (length old) new ≡ old

-- there is one LF, at the end
abbrev pub IsOneLine : List ℕ → Type 0
IsOneLine line = (front : List ℕ) × (line ≡ front ++ 10 ∷ []) × All (λ b. b ≢ 10) front
