use Rattle.index_lane.proofs.lane.LaneOrdered.del.Given as goal

abbrev pub ghosts-del : goal.ghosts-del
ghosts-del a = record { name = a.blank.name; parts = a.blank.parts }
