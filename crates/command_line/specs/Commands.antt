-- The command of words.
use Rattle.std.specs.Prelude.{◌≤◌, ℕ, ◌&&◌, nat_le, min, length, List, [], ◌∷◌, Option, None, Some, unwrap_or, if◌then◌else◌}
use Rattle.std.specs.Int.{is_in_range}
use Rattle.std.specs.Str.Parse.{digits_value}
use Rattle.row_words.specs.Shape.{IsShape}
use Rattle.row_words.specs.declared.shape.Shape.{Shape}
use Rattle.command_line.specs.Number.{is_number, number}
use Rattle.command_line.specs.Marks.{Mark, marks, positional}
use Rattle.command_line.specs.Options.{are_choices, chosen, shape_with, is_shape}
use Rattle.command_line.specs.Verbs.{verb_of, suits}
use Rattle.command_line.specs.declared.field.Field.{Field}
use Rattle.command_line.specs.declared.field.Field.TheVariants.{Tries, Workers, Sessions}
use Rattle.command_line.specs.declared.verb.Verb.{Verb}
use Rattle.command_line.specs.declared.verb.Verb.TheVariants as verbs
use Rattle.command_line.specs.declared.command.TheConstants.{MOST_LINES, MOST_TRIES, LONGEST_ADDRESS, STANDARD_WORKERS}
use Rattle.command_line.specs.declared.command.Command.{Command}
use Rattle.command_line.specs.declared.command.Command.TheVariants as commands

-- what a program is asked for: a run, so many lanes that try so often, a server at an address with so many workers until so many sessions ended, or a fill from a number on of so many lines
pub data Wanted : Type 0 where
  Run : Shape → Wanted
  Lanes : ℕ → Option ℕ → Shape → Wanted
  Serve : List ℕ → ℕ → ℕ → Shape → Wanted
  Fill : ℕ → ℕ → Shape → Wanted

-- what a command asks for
abbrev pub wanted_by : Command → Wanted
wanted_by (commands.Run k) = Run k
wanted_by (commands.Lanes count tries k) = Lanes count tries k
wanted_by (commands.Serve address workers sessions k) = Serve address.now workers sessions k
wanted_by (commands.Fill first count k) = Fill first count k

abbrev pub told_by : Option Command → Option Wanted
told_by None = None
told_by (Some c) = Some (wanted_by c)

-- `run` has no positional word
abbrev pub run : List (List ℕ) → Shape → Option Wanted
run [] k = Some (Run k)
run (word ∷ words) k = None

-- a number of tries, of 1 to `MOST_TRIES`, or tries without end
abbrev pub tries_of : Option ℕ → Option (Option ℕ)
tries_of None = Some None
tries_of (Some n) = if is_in_range 1 MOST_TRIES n then Some (Some n) else None

-- where the number is one of lanes, and the tries are in their range
abbrev pub lanes_with : Option ℕ → Option (Option ℕ) → Shape → Option Wanted
lanes_with (Some n) (Some tries) k = if is_in_range 1 k.lanes n then Some (Lanes n tries k) else None
lanes_with (Some n) None k = None
lanes_with None tries k = None

-- `lanes` has one positional word, the number of lanes
abbrev pub lanes : List (List ℕ) → Option ℕ → Shape → Option Wanted
lanes [] tries k = None
lanes (word ∷ []) tries k = lanes_with (number word) (tries_of tries) k
lanes (word ∷ other ∷ words) tries k = None

-- so many workers, or `STANDARD_WORKERS`, or fewer where there are fewer lanes
abbrev pub workers_of : Option ℕ → ℕ → ℕ
workers_of None lanes = min STANDARD_WORKERS lanes
workers_of (Some n) lanes = n

-- `serve` has one positional word, an address
abbrev pub serve : List (List ℕ) → (Field → Option ℕ) → Shape → Option Wanted
serve [] numbers k = None
serve (address ∷ []) numbers k =
    if is_in_range 1 LONGEST_ADDRESS (length address) && is_in_range 1 k.lanes (workers_of (numbers Workers) k.lanes)
    then Some (Serve address (workers_of (numbers Workers) k.lanes) (unwrap_or (numbers Sessions) 0) k)
    else None
serve (address ∷ other ∷ words) numbers k = None

-- a number of lines, at most `MOST_LINES`
abbrev pub count_of : List ℕ → Option ℕ
count_of word = if is_number word && nat_le (digits_value 10 word) MOST_LINES then Some (digits_value 10 word) else None

-- where both are numbers
abbrev pub fill_with : Option ℕ → Option ℕ → Shape → Option Wanted
fill_with (Some first) (Some count) k = Some (Fill first count k)
fill_with (Some first) None k = None
fill_with None count k = None

-- `fill` has two positional words: where the lines begin, and how many there are
abbrev pub fill : List (List ℕ) → Shape → Option Wanted
fill [] k = None
fill (first ∷ []) k = None
fill (first ∷ count ∷ []) k = fill_with (number first) (count_of count) k
fill (first ∷ count ∷ word ∷ words) k = None

-- the command that is named, of a shape, with its words and its options
abbrev pub command_with : Verb → List (List ℕ) → (Field → Option ℕ) → Shape → Option Wanted
command_with verbs.Run words numbers k = run words k
command_with verbs.Lanes words numbers k = lanes words (numbers Tries) k
command_with verbs.Serve words numbers k = serve words numbers k
command_with verbs.Fill words numbers k = fill words k

-- the same, where the chosen numbers make a shape and the others are the command's own
abbrev pub command_by : Option Verb → List (List ℕ) → (Field → Option ℕ) → Option Wanted
command_by None words numbers = None
command_by (Some v) words numbers = if is_shape (shape_with numbers) && suits v numbers then command_with v words numbers (shape_with numbers) else None

-- the command of a first word
abbrev pub command_for : List ℕ → List (List ℕ) → (Field → Option ℕ) → Option Wanted
command_for word words numbers = command_by (verb_of word) words numbers

-- the same, where the options are choices
abbrev pub command_of : List ℕ → List Mark → Option Wanted
command_of word ms = if are_choices ms then command_for word (positional ms) (chosen ms) else None

-- The command of the words after a program's name: the first says which it is, those behind it are positional words and options in any order.
-- An option chooses a number of the shape or one of the command, and stands once at most; what isn't chosen is standard.
abbrev pub command : List (List ℕ) → Option Wanted
command [] = None
command (word ∷ words) = command_of word (marks words)

-- the tries are in their range
abbrev pub AreTries : Option ℕ → Type 0
AreTries None = Unit {0}
AreTries (Some n) = (1 ≤ n) × (n ≤ MOST_TRIES)

-- all numbers of a command are in their ranges
abbrev pub InRange : Command → Type 0
InRange (commands.Run k) = IsShape k
InRange (commands.Lanes count tries k) = IsShape k × (1 ≤ count) × (count ≤ k.lanes) × AreTries tries
InRange (commands.Serve address workers sessions k) = IsShape k × (1 ≤ length address.now) × (length address.now ≤ LONGEST_ADDRESS) × (1 ≤ workers) × (workers ≤ k.lanes)
InRange (commands.Fill first count k) = IsShape k × (count ≤ MOST_LINES)
