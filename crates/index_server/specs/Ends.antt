-- When a server is refused for want of lanes, and what room it leaves.
use Rattle.std.specs.Prelude.{◌≡◌, ◌≤◌, ◌<◌, ◌+◌, ◌-◌, ℕ}
use Rattle.counts.specs.Counts.{RoseBy}
use Rattle.map_model.specs.declared.refusal.ForkFault.TheVariants as faults
use Rattle.index_server.specs.declared.end.DoorEnd.{DoorEnd}
use Rattle.index_server.specs.declared.end.DoorEnd.TheVariants.{Done, DoorFault, Lanes}

-- Want of lanes is told exactly where so many forks are more than there is room for, and with it how many lanes there may be; want of memory only where a fork is needed.
abbrev pub TellsRoom : ℕ → ℕ → ℕ → DoorEnd → Type 0
TellsRoom room forks most Done = forks ≤ room
TellsRoom room forks most DoorFault = forks ≤ room
TellsRoom room forks most (Lanes (faults.Lanes given cap)) = (room < forks) × (cap ≡ most)
TellsRoom room forks most (Lanes faults.NoMemory) = 0 < forks

-- Forks take of the room for good: as many as there were, up to all of it where lanes were wanting.
abbrev pub LeavesRoom : ℕ → ℕ → ℕ → DoorEnd → Type 0
LeavesRoom before forks now Done = before ≡ now + forks
LeavesRoom before forks now DoorFault = before ≡ now + forks
LeavesRoom before forks now (Lanes (faults.Lanes given cap)) = now ≡ 0
LeavesRoom before forks now (Lanes faults.NoMemory) = (now ≤ before) × (before ≤ now + forks)

-- Each connection that a door gave was closed, by the counts of those opened and of closings before and after.
abbrev pub EachClosed : ℕ → ℕ → ℕ → ℕ → Type 0
EachClosed opened opened_now closings closings_now =
    (opened ≤ opened_now) × RoseBy (opened_now - opened) closings closings_now × (closings_now ≤ closings + (opened_now - opened))
