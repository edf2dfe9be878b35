-- What a history puts, in numbers.
use Rattle.std.specs.Prelude.{ℕ, ◌+◌, List, [], ◌∷◌, length, max}
use Rattle.map_model.specs.Calls.{Call, Put, Reply, Value, Absent, New, Set, Gone, Pairs}
use Rattle.map_model.specs.History.{Entry}

-- 1 for the reply New
abbrev pub is_new : Reply → ℕ
is_new (Value value) = 0
is_new Absent = 0
is_new New = 1
is_new Set = 0
is_new Gone = 0
is_new (Pairs pairs) = 0

-- how many new keys a history put
abbrev pub new_keys : List Entry → ℕ
new_keys [] = 0
new_keys (e ∷ h) = is_new e.reply + new_keys h

-- the length of the key that was put as a new one, and 0 of any other call
abbrev pub new_length : Call → Reply → ℕ
new_length (Put key value) New = length key
new_length call reply = 0

-- the length of the longest key that was put as a new one
abbrev pub longest_new : List Entry → ℕ
longest_new [] = 0
longest_new (e ∷ h) = max (new_length e.call e.reply) (longest_new h)

-- 1 for the reply Set or Gone
abbrev pub is_change : Reply → ℕ
is_change (Value value) = 0
is_change Absent = 0
is_change New = 0
is_change Set = 1
is_change Gone = 1
is_change (Pairs pairs) = 0

-- how often a history replaced a value or took a key out
abbrev pub changes : List Entry → ℕ
changes [] = 0
changes (e ∷ h) = is_change e.reply + changes h
