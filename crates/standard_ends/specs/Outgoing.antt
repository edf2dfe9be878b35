-- What is known of bytes on their way to a writer.
use Rattle.std.specs.Prelude.{ℕ, List, drop, vec_len, Bool, Option}
use Rattle.std.specs.Io.KnownBytes.{append_known}
use Rattle.standard_ends.specs.declared.outgoing.Outgoing.{Outgoing}

abbrev pub writer_of : {W : Type 0} → Outgoing W → W
writer_of o = o.writer

-- the bytes that the writer hasn't taken yet
abbrev pub waiting : {W : Type 0} → Outgoing W → List ℕ
waiting o = drop o.handed o.bytes.items

-- Where the writer tells its bytes: these, and behind them those that it hasn't taken yet. As long as this only grows at
-- its end, nothing is handed on twice, left out or out of order.
abbrev pub passed : {W : Type 0} → (W → Option (List ℕ)) → Outgoing W → Option (List ℕ)
passed contents o = append_known (contents o.writer) (waiting o)

-- whether the writer has failed
abbrev pub is_broken : {W : Type 0} → Outgoing W → Bool
is_broken o = o.broken

-- how much of the buffer is in use
abbrev pub used : {W : Type 0} → Outgoing W → ℕ
used o = vec_len o.bytes
