-- What the ends tell: how often they failed; and which bytes a source will give, where its reader tells.
use Rattle.std.specs.Prelude.{ℕ, List, Option}
use Rattle.std.specs.Io.Buffered.{reader_remaining}
use Rattle.standard_ends.specs.declared.ends.StdSink.{StdSink}
use Rattle.standard_ends.specs.declared.ends.StdSource.{StdSource}

abbrev pub source_faults : {R W : Type 0} → StdSource R W → ℕ
source_faults s = s.faults

abbrev pub sink_faults : {W : Type 0} → StdSink W → ℕ
sink_faults s = s.faults

-- what was read ahead and isn't given yet, and behind it what the reader has
abbrev pub source_left : {R W : Type 0} → (R → Option (List ℕ)) → StdSource R W → Option (List ℕ)
source_left remaining s = reader_remaining remaining s.reader
