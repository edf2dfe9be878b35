-- Calls by their numbers from 1, of which some are planned to fail.
use Rattle.std.specs.Prelude.{ℕ, ◌+◌, ◌-◌, ◌^◌, min, List, Bool, ◌==◌, if◌then◌else◌}
use Rattle.std.specs.List.{list_any}
use Rattle.outside.specs.declared.plan.Plan.{Plan}

-- the numbers of the calls that fail, how many calls there were, and how many of them failed
pub record Planned : Type 0 where
  pub fails : List ℕ
  pub calls : ℕ
  pub faults : ℕ

abbrev pub planned : Plan → Planned
planned p = record { fails = p.fails.items; calls = p.calls; faults = p.faults }

-- the number of the next call
abbrev pub next_call : Planned → ℕ
next_call p = min (p.calls + 1) (2 ^ 64 - 1)

-- whether the next call fails
abbrev pub fails_next : Planned → Bool
fails_next p = list_any (λ (number : ℕ). number == next_call p) p.fails

-- after the next call
abbrev pub after_call : Planned → Planned
after_call p = record {
  fails = p.fails;
  calls = next_call p;
  faults = if fails_next p then min (p.faults + 1) (2 ^ 64 - 1) else p.faults;
}

-- after a failure that wasn't planned
abbrev pub faulted : Planned → Planned
faulted p = record p { faults = min (p.faults + 1) (2 ^ 64 - 1) }
