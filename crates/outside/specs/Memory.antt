-- What the source and the sink in memory tell.
use Rattle.std.specs.Prelude.{ℕ, List, take, drop, length, min, Result, Ok, Err, if◌then◌else◌}
use Rattle.outside.specs.Plans.{Planned, planned, fails_next}
use Rattle.outside.specs.Reading.{Told}
use Rattle.outside.specs.declared.memory.MemSource.{MemSource}
use Rattle.outside.specs.declared.memory.MemSink.{MemSink}
use Rattle.outside.specs.declared.stop.Stop.{Stop}
use Rattle.outside.specs.declared.stop.Stop.TheVariants.{Failed}

abbrev pub told_of : MemSource → Told
told_of s = record { given = take s.at s.bytes.items; left = drop s.at s.bytes.items; ended = s.ended }

-- at most so many bytes are given by a call
abbrev pub piece_of : MemSource → ℕ
piece_of s = s.piece

abbrev pub source_plan : MemSource → Planned
source_plan s = planned s.plan

-- what a read of at most so many bytes answers
abbrev pub read_answer : MemSource → ℕ → Result ℕ Stop
read_answer s most = if fails_next (source_plan s) then Err Failed else Ok (min (min (length (told_of s).left) (piece_of s)) most)

-- the number of the connection of which it is an end
abbrev pub source_connection : MemSource → ℕ
source_connection s = s.connection

abbrev pub written_of : MemSink → List ℕ
written_of s = s.bytes.items

abbrev pub sink_plan : MemSink → Planned
sink_plan s = planned s.plan

abbrev pub sink_connection : MemSink → ℕ
sink_connection s = s.connection
