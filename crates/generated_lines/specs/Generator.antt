-- The lines that a number and a count make.
use Rattle.std.specs.Prelude.{ℕ, zero, suc, ◌+◌, ◌*◌, ◌/◌, ◌%◌, ◌^◌, List, [], ◌∷◌, ◌++◌, codes, decimal, nat_lt, if◌then◌else◌}
use Rattle.std.specs.List.{flat_map}

-- the number behind a number
abbrev pub next_number : ℕ → ℕ
next_number x = (x * 6364136223846793005 + 1442695040888963407) % 2 ^ 64

-- the last digits of a number, so many of them
abbrev pub digits : ℕ → ℕ → List ℕ
digits zero n = []
digits (suc width) n = digits width (n / 10) ++ (48 + n % 10) ∷ []

-- the key of an item: a web address at one of 50 hosts
abbrev pub item_key : ℕ → List ℕ
item_key item = codes "http://host" ++ (digits 2 (item % 50) ++ (codes ".example/item/" ++ digits 6 item))

-- the request of a kind from 0 to 15: of sixteen kinds eight put, five get, two delete and one scans
abbrev pub request_of : ℕ → List ℕ → ℕ → List ℕ
request_of kind key at =
    if nat_lt kind 8 then codes "PUT " ++ (key ++ (codes " " ++ decimal at))
    else if nat_lt kind 13 then codes "GET " ++ key
    else if nat_lt kind 15 then codes "DEL " ++ key
    else codes "SCAN " ++ (key ++ codes " * 20")

-- the line with this place that a number makes: its first four bits are the kind, and the item is made of its upper half
abbrev pub made_line : ℕ → ℕ → List ℕ
made_line at x = request_of (x / 2 ^ 60) (item_key (x / 2 ^ 32 % 10000)) at

-- so many lines from a place on, of the numbers behind this one
abbrev pub made_from : ℕ → ℕ → ℕ → List (List ℕ)
made_from x at zero = []
made_from x at (suc count) = made_line at (next_number x) ∷ made_from (next_number x) (at + 1) count

-- all lines of a number and a count
abbrev pub made : ℕ → ℕ → List (List ℕ)
made number count = made_from number 0 count

-- each line with its LF
abbrev pub lines_text : List (List ℕ) → List ℕ
lines_text lines = flat_map (λ (line : List ℕ). line ++ 10 ∷ []) lines

-- the bytes of all lines of a number and a count
abbrev pub generated : ℕ → ℕ → List ℕ
generated number count = lines_text (made number count)
