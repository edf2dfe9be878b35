use Rattle.index_tests.proofs.lanes.read.Given as goal

abbrev pub ghosts-read_counting : goal.ghosts-read_counting
ghosts-read_counting a = record { name = a.blank.name; parts = a.blank.parts }
