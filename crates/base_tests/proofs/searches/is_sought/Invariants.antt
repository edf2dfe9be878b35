use Rattle.base_tests.proofs.searches.is_sought.Given as goal

abbrev pub ghosts-only_leaf : goal.ghosts-only_leaf
ghosts-only_leaf a = record { name = a.blank.name; parts = a.blank.parts }
