use Rattle.index_tests.proofs.walks.walks_over_nothing.Given as goal

abbrev pub ghosts-has_one_empty_part : goal.ghosts-has_one_empty_part
ghosts-has_one_empty_part a = record { name = a.blank.name; parts = a.blank.parts }
