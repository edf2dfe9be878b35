use Rattle.index_tests.proofs.walks.split_walks.Given as goal

abbrev pub ghosts-has_two_parts : goal.ghosts-has_two_parts
ghosts-has_two_parts a = record { name = a.blank.name; parts = a.blank.parts }
