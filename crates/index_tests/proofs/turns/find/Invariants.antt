use Rattle.index_tests.proofs.turns.find.Given as goal

abbrev pub ghosts-find_counting : goal.ghosts-find_counting
ghosts-find_counting a = record { name = a.blank.name; parts = a.blank.parts }
