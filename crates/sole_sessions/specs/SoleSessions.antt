-- What a session over a store for itself alone wrote.
use Rattle.std.specs.Prelude.{◌⊎◌, ℕ, Option, List, codes}
use Rattle.line_protocol.specs.Served.{served}
use Rattle.map_model.specs.History.{Entry}
use Rattle.outside.specs.Reading.{Told}
use Rattle.session.specs.Plain.{HasLine, PlainBy, PlainSession}
use Rattle.session.specs.declared.session.SessionEnd.{SessionEnd}
use Rattle.sole_sessions.specs.Rooms.{HasRoomFor}

-- Where no line tells a refusal, the output is that of one ordered map. It is so too where the store has room for what the served lines put,
-- unless a line tells of want of memory; and there no line tells of want of room, also behind lines that tell of want of memory.
pub record SoleSession (end : SessionEnd) (budget : ℕ) (told_before told_now : Option Told) (written_before written_now : Option (List ℕ)) (fits : List Entry → Type 0) : Type 0 where
  pub plain : PlainSession end budget told_before told_now written_before written_now
  pub complete : HasRoomFor fits (served plain.bytes plain.ended) → PlainBy end plain.bytes plain.output ⊎ HasLine (codes "NOMEM") plain.output
  pub never_full : HasRoomFor fits (served plain.bytes plain.ended) → HasLine (codes "FULL") plain.output → ⊥
