use Rattle.index_lane.proofs.lane.LaneOrdered.part.Given as goal

abbrev pub ghosts-part : goal.ghosts-part
ghosts-part a = record { name = a.blank.name; parts = a.blank.parts }
