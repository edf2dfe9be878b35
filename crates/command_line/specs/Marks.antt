-- Words, cut into positional words and options.
use Rattle.std.specs.Prelude.{◌≢◌, ℕ, ◌==◌, ◌&&◌, Bool, not, List, [], ◌∷◌, slice_index, if◌then◌else◌}
use Rattle.std.specs.List.{list_any, before_first, after_first}

-- a positional word, or an option's name and value
pub data Mark : Type 0 where
  Positional : List ℕ → Mark
  Chosen : List ℕ → List ℕ → Mark

-- it begins with `-`
abbrev pub is_dashed : List ℕ → Bool
is_dashed word = slice_index word 0 == 45

-- it is `=`
abbrev pub is_equals : ℕ → Bool
is_equals b = b == 61

-- it is an option's name alone: the next word is its value
abbrev pub is_bare : List ℕ → Bool
is_bare word = is_dashed word && not (list_any is_equals word)

-- what a word is by itself: with `-` in front an option, cut at the first `=`, and positional without; so `--` and `-x` are options, of no field
abbrev pub mark : List ℕ → Mark
mark word = if is_dashed word then Chosen (before_first is_equals word) (after_first is_equals word) else Positional word

-- what the words are, one after another; a bare name at the end has the empty value
abbrev pub marks : List (List ℕ) → List Mark
marks [] = []
marks (word ∷ []) = mark word ∷ []
marks (word ∷ next ∷ words) = if is_bare word then Chosen word next ∷ marks words else mark word ∷ marks (next ∷ words)

-- the positional words, in order
abbrev pub positional : List Mark → List (List ℕ)
positional [] = []
positional (Positional word ∷ ms) = word ∷ positional ms
positional (Chosen name value ∷ ms) = positional ms

-- the names of the options, in order
abbrev pub names : List Mark → List (List ℕ)
names [] = []
names (Positional word ∷ ms) = names ms
names (Chosen name value ∷ ms) = name ∷ names ms

-- two marks that may change places: an option and a positional word, or two options of different names
abbrev pub MayPass : Mark → Mark → Type 0
MayPass (Positional word) (Positional other) = ⊥
MayPass (Positional word) (Chosen name value) = Unit {0}
MayPass (Chosen name value) (Positional word) = Unit {0}
MayPass (Chosen name value) (Chosen other more) = name ≢ other
