-- How a count of events goes on: it never falls, and stands still at its type's end.
use Rattle.std.specs.Prelude.{ℕ, ◌+◌, ◌-◌, ◌^◌, ◌≤◌, min}

-- there were at least n events more, as far as the count can tell
abbrev pub RoseBy : ℕ → ℕ → ℕ → Type 0
RoseBy n before now = min (before + n) (2 ^ 64 - 1) ≤ now

-- there was an event
abbrev pub Rose : ℕ → ℕ → Type 0
Rose before now = RoseBy 1 before now
