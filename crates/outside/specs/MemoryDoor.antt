-- What the door in memory tells.
use Rattle.std.specs.Prelude.{ℕ, ◌+◌, ◌-◌, ◌^◌, min, List, [], ◌∷◌, ◌++◌, map, drop, length, nat_lt, Option, Some, None, Bool, ◌||◌, ◌==◌, if◌then◌else◌}
use Rattle.std.specs.Global.{Vec}
use Rattle.outside.specs.Connections.{Connection}
use Rattle.outside.specs.Memory.{told_of, written_of, source_connection}
use Rattle.outside.specs.Plans.{Planned, planned, next_call, fails_next}
use Rattle.outside.specs.declared.mem_door.MemDoor.{MemDoor}
use Rattle.outside.specs.declared.mem_door.MemEnded.{MemEnded}
use Rattle.outside.specs.declared.memory.MemSource.{MemSource}
use Rattle.outside.specs.declared.memory.MemSink.{MemSink}

-- the bytes of each input that no connection has taken yet
abbrev pub waiting_of : MemDoor → List (List ℕ)
waiting_of d = map (λ (input : Vec ℕ). input.items) (drop d.next d.inputs.items)

-- how many connections it gave
abbrev pub opened_of : MemDoor → ℕ
opened_of d = d.next

-- of so many connections the door tells how they were closed
abbrev pub room_of : MemDoor → ℕ
room_of d = length d.inputs.items

-- the calls of `listen` and `accept`
abbrev pub door_plan : MemDoor → Planned
door_plan d = planned d.plan

-- whether the next `accept` fails: it is planned to, or no input waits
abbrev pub accept_fails : MemDoor → Bool
accept_fails d = fails_next (door_plan d) || (length (waiting_of d) == 0)

-- the plan after the next `accept`
abbrev pub after_accept : MemDoor → Planned
after_accept d = record {
  fails = (door_plan d).fails;
  calls = next_call (door_plan d);
  faults = if accept_fails d then min ((door_plan d).faults + 1) (2 ^ 64 - 1) else (door_plan d).faults;
}

-- a connection as its ends tell it
abbrev pub connection_of : MemSource → MemSink → Connection
connection_of input output = record { taken = (told_of input).given; ended = (told_of input).ended; written = written_of output }

-- a connection that has ended, as its ends tell it
abbrev pub past_of : MemEnded → Connection
past_of ended = connection_of ended.input ended.output

-- its number
abbrev pub number_of : MemEnded → ℕ
number_of ended = source_connection ended.input

-- the connections of inputs and outputs, pair by pair
abbrev pub connections : List MemSource → List MemSink → List Connection
connections [] outputs = []
connections (input ∷ inputs) [] = []
connections (input ∷ inputs) (output ∷ outputs) = connection_of input output ∷ connections inputs outputs

-- the closed connections in the order of closing, until one was closed for which there was no room
abbrev pub closed_of : MemDoor → Option (List Connection)
closed_of d = if d.overfull then None else Some (connections d.sources.items d.outputs.items)

-- what is told after one more close, with room for so many
abbrev pub told_after : ℕ → Option (List Connection) → Connection → Option (List Connection)
told_after room None connection = None
told_after room (Some closed) connection = if nat_lt (length closed) room then Some (closed ++ connection ∷ []) else None
