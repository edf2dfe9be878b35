-- The lines that are served.
use Rattle.std.specs.Prelude.{◌≡◌, ℕ, Bool, true, false, List, [], ◌∷◌, filter, if◌then◌else◌}
use Rattle.std.specs.List.{list_any}
use Rattle.line_reader.specs.Cut.{lines}
use Rattle.line_protocol.specs.Requests.{request, is_quit}

-- it isn't empty
abbrev pub has_bytes : List ℕ → Bool
has_bytes [] = false
has_bytes (b ∷ bytes) = true

-- it asks for the end of the session
abbrev pub quits : List ℕ → Bool
quits line = is_quit (request line)

-- the lines up to and with the first that quits
abbrev pub until_quit : List (List ℕ) → List (List ℕ)
until_quit [] = []
until_quit (line ∷ lines) = line ∷ (if quits line then [] else until_quit lines)

-- the lines of these bytes that aren't empty, cut after the first that quits
abbrev pub served : List ℕ → Bool → List (List ℕ)
served bytes ended = until_quit (filter has_bytes (lines bytes ended))

-- no line quits
abbrev pub HasNoQuit : List (List ℕ) → Type 0
HasNoQuit lines = list_any quits lines ≡ false
