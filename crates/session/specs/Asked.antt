-- What told lines ask for, and how far that is served.
use Rattle.std.specs.Prelude.{List, [], ◌∷◌, Bool, false, ◌||◌, if◌then◌else◌, None, Some, Ok, Err}
use Rattle.std.specs.List.{flat_map}
use Rattle.line_reader.specs.Told.{Told}
use Rattle.line_reader.specs.Told.Told.{Read, Long}
use Rattle.line_protocol.specs.Requests.{Asked, request, is_quit}
use Rattle.line_protocol.specs.declared.fault.Fault.TheVariants.{Line}
use Rattle.line_protocol.specs.declared.fault.RequestFault.TheVariants.{Fault}

-- what is asked for, if anything
abbrev pub if_any : Asked → List Asked
if_any (Ok None) = []
if_any (Ok (Some asks)) = Ok (Some asks) ∷ []
if_any (Err fault) = Err fault ∷ []

abbrev pub asked_by : Told → List Asked
asked_by (Read line) = if_any (request line)
asked_by Long = Err (Fault Line) ∷ []

-- what these lines ask for
abbrev pub asked_by_all : List Told → List Asked
asked_by_all told = flat_map asked_by told

abbrev pub has_quit : List Asked → Bool
has_quit [] = false
has_quit (asked ∷ all) = is_quit asked || has_quit all

-- up to and with the first that asks for the end of the session
abbrev pub upto_quit : List Asked → List Asked
upto_quit [] = []
upto_quit (asked ∷ all) = asked ∷ (if is_quit asked then [] else upto_quit all)
