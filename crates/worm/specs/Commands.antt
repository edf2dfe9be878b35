-- What a command did.
use Rattle.std.specs.Prelude.{◌≡◌, ℕ, List, Option, Some, None}
use Rattle.board_rule.specs.declared.board.Pass.{Pass}
use Rattle.command_line.specs.Commands.{Wanted, Run, Lanes, Serve, Fill}
use Rattle.map_model.specs.declared.refusal.Refusal.{Refusal}
use Rattle.outside.specs.Connections.{Connection}
use Rattle.outside.specs.Reading.{Told}
use Rattle.worm.specs.Fills.{FilledWith}
use Rattle.worm.specs.Lanes.{LanesRan}
use Rattle.worm.specs.Runs.{IsUnrefused, RanWith}
use Rattle.worm.specs.Servers.{ServedWith}

-- no command, or one that reads no input
abbrev pub ReadsNothing : Option Wanted → Type 0
ReadsNothing None = Unit {0}
ReadsNothing (Some (Run k)) = ⊥
ReadsNothing (Some (Lanes count tries k)) = ⊥
ReadsNothing (Some (Serve address workers sessions k)) = Unit {0}
ReadsNothing (Some (Fill number count k)) = Unit {0}

-- no command, or one that writes no output
abbrev pub WritesNothing : Option Wanted → Type 0
WritesNothing None = Unit {0}
WritesNothing (Some (Run k)) = ⊥
WritesNothing (Some (Lanes count tries k)) = ⊥
WritesNothing (Some (Serve address workers sessions k)) = Unit {0}
WritesNothing (Some (Fill number count k)) = ⊥

-- no command, or one that serves no connections
abbrev pub OpensNothing : Option Wanted → Type 0
OpensNothing None = Unit {0}
OpensNothing (Some (Run k)) = Unit {0}
OpensNothing (Some (Lanes count tries k)) = Unit {0}
OpensNothing (Some (Serve address workers sessions k)) = ⊥
OpensNothing (Some (Fill number count k)) = Unit {0}

-- what is seen of a source, a sink and a door: their bytes and closed connections, where these are told, and their counts of faults, and of connections opened and closed
pub record Ends : Type 0 where
  pub told : Option Told
  pub reads : ℕ
  pub written : Option (List ℕ)
  pub writes : ℕ
  pub closed : Option (List Connection)
  pub opened : ℕ
  pub closings : ℕ

abbrev pub ends : Option Told → ℕ → Option (List ℕ) → ℕ → Option (List Connection) → ℕ → ℕ → Ends
ends told reads written writes closed opened closings = record { told = told; reads = reads; written = written; writes = writes; closed = closed; opened = opened; closings = closings }

-- Words that are no command end with status 2 and without a pass, and a command as it says.
abbrev pub Did : Option Wanted → ℕ → Ends → Ends → Option Pass → ℕ → Option Refusal → Type 0
Did None status old new pass refusals last = (status ≡ 2) × (pass ≡ None) × IsUnrefused refusals last
Did (Some (Run k)) status old new pass refusals last = RanWith k status old.told new.told old.written new.written old.reads new.reads old.writes new.writes pass refusals last
Did (Some (Lanes count tries k)) status old new pass refusals last = LanesRan k count tries status old.told new.told old.written new.written pass refusals last
Did (Some (Serve address workers sessions k)) status old new pass refusals last = ServedWith k workers sessions status old.closed new.closed old.opened new.opened old.closings new.closings pass refusals last
Did (Some (Fill number count k)) status old new pass refusals last = FilledWith k number count status old.written new.written pass refusals last
