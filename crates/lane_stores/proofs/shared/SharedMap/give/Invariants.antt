use Rattle.lane_stores.specs.Calls.{told_by, entries_of}
use Rattle.lane_stores.proofs.shared.SharedMap.give.Given as goal

-- the entry of the call
abbrev pub ghosts-give_as : goal.ghosts-give_as
ghosts-give_as a = record { entries = entries_of a._lane a.seat.now.me.0.seen (told_by a._deed.now) }
