-- The request of a line.
use Rattle.std.specs.Prelude.{◌≡◌, ℕ, ◌≤◌, ◌==◌, Bool, true, false, nat_lt, List, [], ◌∷◌, length, codes, Option, None, Some, Result, Ok, Err, if◌then◌else◌}
use Rattle.std.specs.Str.{bytes_eq}
use Rattle.key_bytes.specs.Lengths.{IsKey, AreBytes}
use Rattle.key_bytes.specs.declared.bound.Bound.{Bound}
use Rattle.key_bytes.specs.declared.bound.Bound.TheVariants.{Low, At, High}
use Rattle.key_bytes.specs.declared.limits.TheConstants.{LONGEST_VALUE}
use Rattle.line_reader.specs.declared.limits.TheConstants.{LONGEST_LINE}
use Rattle.line_protocol.specs.Words.{words_of, one, two, three}
use Rattle.line_protocol.specs.Parts.{key_of, value_of, end_of, limit_of}
use Rattle.line_protocol.specs.declared.fault.Fault.TheVariants.{Command, Words, Line}
use Rattle.line_protocol.specs.declared.fault.RequestFault.{RequestFault}
use Rattle.line_protocol.specs.declared.fault.RequestFault.TheVariants.{Fault}
use Rattle.line_protocol.specs.declared.parts.TheConstants.{MOST_SCANNED}
use Rattle.line_protocol.specs.declared.request.Request.{Request}
use Rattle.line_protocol.specs.declared.request.Request.TheVariants.{Put, Get, Del, Scan, Quit}

-- nothing, a request, or a fault
abbrev pub Asked : Type 0
Asked = Result (Option Request) RequestFault

-- the second part counts where the first has no fault
abbrev pub and_then : {A B : Type 0} → Result A RequestFault → (A → Result B RequestFault) → Result B RequestFault
and_then (Ok x) f = f x
and_then (Err fault) f = Err fault

abbrev pub put_of : Option (List ℕ × List ℕ) → Asked
put_of None = Err (Fault Words)
put_of (Some words) = and_then (key_of words.0) (λ key. and_then (value_of words.1) (λ value. Ok (Some (Put key value))))

-- what the words behind a PUT ask
abbrev pub put : List (List ℕ) → Asked
put words = put_of (two words)

abbrev pub get_of : Option (List ℕ) → Asked
get_of None = Err (Fault Words)
get_of (Some word) = and_then (key_of word) (λ key. Ok (Some (Get key)))

-- behind a GET
abbrev pub get : List (List ℕ) → Asked
get words = get_of (one words)

abbrev pub del_of : Option (List ℕ) → Asked
del_of None = Err (Fault Words)
del_of (Some word) = and_then (key_of word) (λ key. Ok (Some (Del key)))

-- behind a DEL
abbrev pub del : List (List ℕ) → Asked
del words = del_of (one words)

abbrev pub scan_of : Option (List ℕ × List ℕ × List ℕ) → Asked
scan_of None = Err (Fault Words)
scan_of (Some words) =
    and_then (end_of Low words.0) (λ from. and_then (end_of High words.1) (λ upto. and_then (limit_of words.2) (λ limit. Ok (Some (Scan from upto limit)))))

-- behind a SCAN
abbrev pub scan : List (List ℕ) → Asked
scan words = scan_of (three words)

-- behind a QUIT
abbrev pub quit : List (List ℕ) → Asked
quit [] = Ok (Some Quit)
quit (word ∷ words) = Err (Fault Words)

-- what words ask, by the first of them
abbrev pub asked : List (List ℕ) → Asked
asked [] = Err (Fault Command)
asked (command ∷ words) =
    if bytes_eq command (codes "PUT") then put words
    else if bytes_eq command (codes "GET") then get words
    else if bytes_eq command (codes "DEL") then del words
    else if bytes_eq command (codes "SCAN") then scan words
    else if bytes_eq command (codes "QUIT") then quit words
    else Err (Fault Command)

-- An empty line asks for nothing. Any other asks for what its words say, or has its first fault: it is too long, its first word is no command,
-- it has another number of words, or one of them is no key, no value or no limit, the first such word.
abbrev pub request : List ℕ → Asked
request line =
    if length line == 0 then Ok None
    else if nat_lt LONGEST_LINE (length line) then Err (Fault Line)
    else asked (words_of line)

-- it asks for the end of the session
abbrev pub is_quit : Asked → Bool
is_quit (Ok None) = false
is_quit (Ok (Some (Put key value))) = false
is_quit (Ok (Some (Get key))) = false
is_quit (Ok (Some (Del key))) = false
is_quit (Ok (Some (Scan from upto limit))) = false
is_quit (Ok (Some Quit)) = true
is_quit (Err fault) = false

-- no more bytes than a value may have
abbrev pub IsValue : List ℕ → Type 0
IsValue value = (length value ≤ LONGEST_VALUE) × AreBytes value

-- an end of a scan is a key, or the one open end that it may be
abbrev pub IsEnd : Bound → Bound → Type 0
IsEnd bare Low = bare ≡ Low
IsEnd bare (At key) = IsKey key
IsEnd bare High = bare ≡ High

-- a request that a line may ask for
abbrev pub IsRequest : Request → Type 0
IsRequest (Put key value) = IsKey key × IsValue value
IsRequest (Get key) = IsKey key
IsRequest (Del key) = IsKey key
IsRequest (Scan from upto limit) = IsEnd Low from × IsEnd High upto × (limit ≤ MOST_SCANNED)
IsRequest Quit = Unit {0}

-- what is asked, if anything, is a request
abbrev pub AsksRequest : Option Request → Type 0
AsksRequest None = Unit {0}
AsksRequest (Some asks) = IsRequest asks
