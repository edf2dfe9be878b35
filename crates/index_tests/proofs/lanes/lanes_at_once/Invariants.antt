use Rattle.index_tests.proofs.lanes.lanes_at_once.Given as goal

abbrev pub ghosts-are_as_put : goal.ghosts-are_as_put
ghosts-are_as_put g a = record { name = a.blank.name; parts = a.blank.parts }
