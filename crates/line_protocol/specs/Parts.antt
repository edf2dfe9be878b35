-- The parts of a request.
use Rattle.std.specs.Prelude.{◌≡◌, ℕ, ◌+◌, ◌&&◌, Bool, nat_lt, nat_le, List, length, codes, Result, Ok, Err, if◌then◌else◌}
use Rattle.std.specs.Str.{bytes_eq, all_ascii_digits}
use Rattle.std.specs.Str.Parse.{digits_value}
use Rattle.line_protocol.specs.Escape.{unescape}
use Rattle.key_bytes.specs.declared.bound.Bound.{Bound}
use Rattle.key_bytes.specs.declared.bound.Bound.TheVariants.{At}
use Rattle.key_bytes.specs.declared.limits.TheConstants.{LONGEST_KEY, LONGEST_VALUE}
use Rattle.line_protocol.specs.declared.fault.Fault.TheVariants.{Key, Value, Limit}
use Rattle.line_protocol.specs.declared.fault.RequestFault.{RequestFault}
use Rattle.line_protocol.specs.declared.fault.RequestFault.TheVariants.{Fault, NoMemory}
use Rattle.line_protocol.specs.declared.parts.TheConstants.{LIMIT_DIGITS, MOST_SCANNED}

-- the answer is the one that is wanted, but want of memory may come in its place
abbrev pub Answers : {T : Type 0} → Result T RequestFault → Result T RequestFault → Type 0
Answers (Ok x) wanted = wanted ≡ Ok x
Answers (Err NoMemory) wanted = Unit {0}
Answers (Err (Fault cause)) wanted = wanted ≡ Err (Fault cause)

-- at least one byte, and no more than a key may have
abbrev pub is_key : List ℕ → Bool
is_key bytes = nat_lt 0 (length bytes) && nat_lt (length bytes) (LONGEST_KEY + 1)

-- the key of these bytes
abbrev pub as_key : List ℕ → Result (List ℕ) RequestFault
as_key bytes = if is_key bytes then Ok bytes else Err (Fault Key)

-- the key that a word stands for
abbrev pub key_of : List ℕ → Result (List ℕ) RequestFault
key_of word = as_key (unescape word)

-- the value that a word stands for, of no more bytes than a value may have
abbrev pub value_of : List ℕ → Result (List ℕ) RequestFault
value_of word = if nat_le (length (unescape word)) LONGEST_VALUE then Ok (unescape word) else Err (Fault Value)

-- the end of a scan that a word stands for; `*` alone is the bare one
abbrev pub end_of : Bound → List ℕ → Result Bound RequestFault
end_of bare word =
    if bytes_eq word (codes "*") then Ok bare
    else if is_key (unescape word) then Ok (At (unescape word)) else Err (Fault Key)

-- 1 to 7 decimal digits, of a value of at most 1,000,000
abbrev pub is_limit : List ℕ → Bool
is_limit word = nat_lt 0 (length word) && nat_le (length word) LIMIT_DIGITS && all_ascii_digits word && nat_le (digits_value 10 word) MOST_SCANNED

-- the limit of a scan that a word stands for
abbrev pub limit_of : List ℕ → Result ℕ RequestFault
limit_of word = if is_limit word then Ok (digits_value 10 word) else Err (Fault Limit)
