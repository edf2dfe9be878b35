-- What is known of words while they are read.
use Rattle.std.specs.Prelude.{◌≡◌, ◌≢◌, ◌⊎◌, ℕ, ◌≤◌, false, true, List, [], ◌∷◌, ◌++◌, length, slice_index_or, Option, None, Some, is_some}
use Rattle.command_line.specs.Number.{number}
use Rattle.command_line.specs.Marks.{Mark, Positional, Chosen}
use Rattle.command_line.specs.Options.{is_known, name_of}
use Rattle.command_line.specs.Commands.{command_of}
use Rattle.command_line.specs.Places.{place_of}
use Rattle.command_line.specs.declared.field.Field.{Field}
use Rattle.command_line.specs.declared.mark.Mark as written
use Rattle.command_line.specs.declared.mark.Mark.TheVariants as marked
use Rattle.command_line.specs.declared.choices.Words.{Words}
use Rattle.command_line.specs.declared.choices.Words.TheVariants.{Absent, One, Two}
use Rattle.command_line.specs.declared.choices.Choices.{Choices}

-- what a mark says
abbrev pub mark_of : written.Mark → Mark
mark_of (marked.Positional word) = Positional word.now
mark_of (marked.Chosen name value) = Chosen name.now value.now

-- the positional words so far
abbrev pub list_of : Words → List (List ℕ)
list_of Absent = []
list_of (One word) = word.now ∷ []
list_of (Two word other) = word.now ∷ other.now ∷ []

-- the number that is chosen for a field so far
abbrev pub number_at : Choices → Field → Option ℕ
number_at c f = slice_index_or c.numbers (place_of f) None

-- an option takes a number for a field that had none
pub record Chose (before : Choices) (name value : List ℕ) (now : Choices) : Type 0 where
  pub field : Field
  pub named : name ≡ name_of field
  pub free : number_at before field ≡ None
  pub taken : ℕ
  pub is : number value ≡ Some taken
  pub here : number_at now field ≡ Some taken
  pub others : (other : Field) → other ≢ field → number_at now other ≡ number_at before other
  pub words : list_of now.words ≡ list_of before.words

-- a mark adds what it says
abbrev pub Takes : Choices → Mark → Choices → Type 0
Takes before (Positional word) now =
    ((f : Field) → number_at now f ≡ number_at before f) × (list_of now.words ≡ list_of before.words ++ word ∷ [])
Takes before (Chosen name value) now = Chose before name value now

-- an option is that of a field that already has a number, or its value is none
pub record HasFault (before : Choices) (name value : List ℕ) : Type 0 where
  pub field : Field
  pub named : name ≡ name_of field
  pub fault : (is_some (number_at before field) ≡ true) ⊎ (number value ≡ None)

-- no command may have a mark: there are two positional words, or an option isn't known or has a fault
abbrev pub IsRefused : Choices → Mark → Type 0
IsRefused before (Positional word) = 2 ≤ length (list_of before.words)
IsRefused before (Chosen name value) = (is_known name ≡ false) ⊎ HasFault before name value

-- marks are no command's, behind any first word
abbrev pub IsNoCommand : List Mark → Type 0
IsNoCommand ms = (word : List ℕ) → command_of word ms ≡ None
