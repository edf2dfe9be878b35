-- What is told of lines.
use Rattle.std.specs.Prelude.{◌≡◌, ℕ, Bool, nat_lt, List, [], ◌∷◌, length, take, map, Option, Some, None, if◌then◌else◌}
use Rattle.line_reader.specs.Cut.{ended_lines, last_line}
use Rattle.line_reader.specs.Held.{Held}
use Rattle.line_reader.specs.declared.limits.TheConstants.{LINE_ROOM, LONGEST_LINE}
use Rattle.line_reader.specs.declared.lines.Event.{Event}
use Rattle.line_reader.specs.declared.lines.Event.TheVariants.{Line, TooLong}

-- a line that is told, or that there was one which is too long
pub data Told : Type 0 where
  Read : (line : List ℕ) → Told
  Long : Told

-- a line of more than `LONGEST_LINE` bytes is too long
abbrev pub tells : List ℕ → Told
tells line = if nat_lt LONGEST_LINE (length line) then Long else Read line

-- what an event tells, where the buffer has this line
abbrev pub told : Option Event → List ℕ → List Told
told None line = []
told (Some Line) line = Read line ∷ []
told (Some TooLong) line = Long ∷ []

-- what is told of the lines that end in these bytes, where an open part stands before them
abbrev pub told_lines : List ℕ → List ℕ → List Told
told_lines part bytes = map tells (ended_lines part bytes)

-- what is told of an open part at the end of input
abbrev pub last_told : List ℕ → List Told
last_told part = map tells (last_line part)

-- a buffer has the front of a line: as much of this part as it has room for, and whether there is more
pub record IsFront (line : List ℕ) (over : Bool) (part : List ℕ) : Type 0 where
  pub kept : line ≡ take LINE_ROOM part
  pub more : over ≡ nat_lt LINE_ROOM (length part)

-- the reader is in the middle of a line, of which it took this part
abbrev pub Holds : Held → List ℕ → Type 0
Holds held part = IsFront held.kept held.over part
