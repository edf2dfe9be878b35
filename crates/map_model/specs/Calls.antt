-- The calls of an ordered map, and what it answers.
use Rattle.std.specs.Prelude.{ℕ, List, Bool, false, Option, Some, None, is_some, if◌then◌else◌}
use Rattle.key_bytes.specs.declared.bound.Bound.{Bound}
use Rattle.map_model.specs.Maps.{find, with, without, between}

pub data Call : Type 0 where
  Get : (key : List ℕ) → Call
  Put : (key value : List ℕ) → Call
  Del : (key : List ℕ) → Call
  Part : (from upto : Bound) → Call

pub data Reply : Type 0 where
  Value : (value : List ℕ) → Reply
  Absent : Reply
  New : Reply
  Set : Reply
  Gone : Reply
  Pairs : (pairs : List (List ℕ × List ℕ)) → Reply

-- the value that was found, if there is one
abbrev pub found : Option (List ℕ) → Reply
found None = Absent
found (Some value) = Value value

-- what a map answers to a call
abbrev pub answer_of : List (List ℕ × List ℕ) → Call → Reply
answer_of m (Get key) = found (find m key)
answer_of m (Put key value) = if is_some (find m key) then Set else New
answer_of m (Del key) = if is_some (find m key) then Gone else Absent
answer_of m (Part from upto) = Pairs (between m from upto)

-- the map after the call
abbrev pub map_after : List (List ℕ × List ℕ) → Call → List (List ℕ × List ℕ)
map_after m (Get key) = m
map_after m (Put key value) = with m key value
map_after m (Del key) = without m key
map_after m (Part from upto) = m

-- the call is of one key, which passes the test
abbrev pub is_of : (List ℕ → Bool) → Call → Bool
is_of test (Get key) = test key
is_of test (Put key value) = test key
is_of test (Del key) = test key
is_of test (Part from upto) = false
