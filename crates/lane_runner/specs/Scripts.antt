-- A script as a source of bytes.
use Rattle.std.specs.Prelude.{take, drop}
use Rattle.outside.specs.Reading.{Told}
use Rattle.lane_runner.specs.declared.script.Script.{Script}

-- the bytes that were read, those that are left, and whether the end was told
abbrev pub told_of : Script → Told
told_of s = record { given = take s.at s.bytes.items; left = drop s.at s.bytes.items; ended = s.ended }
