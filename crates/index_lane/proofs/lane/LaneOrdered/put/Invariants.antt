use Rattle.index_lane.proofs.lane.LaneOrdered.put.Given as goal

abbrev pub ghosts-put : goal.ghosts-put
ghosts-put a = record { name = a.blank.name; parts = a.blank.parts }
