use Rattle.index_tests.proofs.lanes.work.Given as goal

abbrev pub ghosts-work_counting : goal.ghosts-work_counting
ghosts-work_counting a = record { name = a.blank.name; parts = a.blank.parts }
