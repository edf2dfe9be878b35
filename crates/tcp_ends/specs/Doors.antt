-- What a door over TCP counts, and the numbers of the ends that it gives.
use Rattle.std.specs.Prelude.{ℕ}
use Rattle.tcp_ends.specs.declared.door.TcpDoor.{TcpDoor}
use Rattle.tcp_ends.specs.declared.ends.TcpSink.{TcpSink}
use Rattle.tcp_ends.specs.declared.ends.TcpSource.{TcpSource}
use Rattle.tcp_ends.specs.declared.ends.TcpEnded.{TcpEnded}

abbrev pub door_opened : {R : Type 0} → TcpDoor R → ℕ
door_opened d = d.opened

abbrev pub door_closings : {R : Type 0} → TcpDoor R → ℕ
door_closings d = d.closings

abbrev pub door_faults : {R : Type 0} → TcpDoor R → ℕ
door_faults d = d.faults

abbrev pub source_connection : TcpSource → ℕ
source_connection s = s.connection

abbrev pub sink_connection : TcpSink → ℕ
sink_connection s = s.connection

abbrev pub ended_connection : TcpEnded → ℕ
ended_connection ended = ended.connection
