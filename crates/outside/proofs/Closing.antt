-- The closed connections of the door in memory.
use Rattle.std.proofs.Common.{◌≡◌, ℕ, ◌<◌, ◌≤◌, List, [], ◌∷◌, ◌++◌, Some, None, Bool, true, false, length, map, suc, refl, ap, ◌∙◌, arith}
use Rattle.std.specs.Prelude.{if◌then◌else◌}
use Rattle.std.proofs.lemmas.Bool.{cond_below, cond_above}
use Rattle.outside.specs.Connections.{Connection, Closes}
use Rattle.outside.specs.Memory.{told_of, written_of}
use Rattle.outside.specs.MemoryDoor.{connection_of, connections, told_after}
use Rattle.outside.specs.declared.memory.MemSource.{MemSource}
use Rattle.outside.specs.declared.memory.MemSink.{MemSink}

-- one more pair is one more connection
pub one_more : (inputs : List MemSource) (outputs : List MemSink) (input : MemSource) (output : MemSink) → length inputs ≡ length outputs → connections (inputs ++ input ∷ []) (outputs ++ output ∷ []) ≡ connections inputs outputs ++ connection_of input output ∷ []
one_more [] [] input output same = refl
one_more [] (k ∷ outputs) input output same = absurd cc
one_more (s ∷ inputs) [] input output same = absurd cc
one_more (s ∷ inputs) (k ∷ outputs) input output same = ap (λ rest. connection_of s k ∷ rest) (one_more inputs outputs input output (omega (arith, same)))

-- there are as many as pairs
pub as_many : (inputs : List MemSource) (outputs : List MemSink) → length inputs ≡ length outputs → length (connections inputs outputs) ≡ length outputs
as_many [] [] same = refl
as_many [] (k ∷ outputs) same = absurd cc
as_many (s ∷ inputs) [] same = absurd cc
as_many (s ∷ inputs) (k ∷ outputs) same = ap suc (as_many inputs outputs (omega (arith, same)))

-- each tells what was written to its output
pub each_written : (inputs : List MemSource) (outputs : List MemSink) → length inputs ≡ length outputs → map written_of outputs ≡ map (λ (c : Connection). c.written) (connections inputs outputs)
each_written [] [] same = refl
each_written [] (k ∷ outputs) same = absurd cc
each_written (s ∷ inputs) [] same = absurd cc
each_written (s ∷ inputs) (k ∷ outputs) same = ap (λ rest. written_of k ∷ rest) (each_written inputs outputs (omega (arith, same)))

-- without room, nothing is told
pub told_without_room : (overfull : Bool) (room : ℕ) (closed : List Connection) (connection : Connection) → room ≤ length closed → None ≡ told_after room (if overfull then None else Some closed) connection
told_without_room true room closed connection full = refl
told_without_room false room closed connection full = cond_above (length closed) room (Some (closed ++ connection ∷ [])) None None full refl

-- with room, the connection is told behind the others
pub told_with_room : (overfull : Bool) (room : ℕ) (closed now : List Connection) (connection : Connection) → length closed < room → now ≡ closed ++ connection ∷ [] → (if overfull then None else Some now) ≡ told_after room (if overfull then None else Some closed) connection
told_with_room true room closed now connection less is = refl
told_with_room false room closed now connection less is = ap Some is ∙ cond_below (length closed) room (Some (closed ++ connection ∷ [])) None less

pub closes_behind : (overfull : Bool) (closed now : List Connection) (input : MemSource) (output : MemSink) → now ≡ closed ++ connection_of input output ∷ [] → Closes (if overfull then None else Some closed) (if overfull then None else Some now) (Some (connection_of input output))
closes_behind true closed now input output is = tt
closes_behind false closed now input output is = is
