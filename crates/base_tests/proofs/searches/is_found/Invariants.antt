use Rattle.base_tests.proofs.searches.is_found.Given as goal

abbrev pub ghosts-search : goal.ghosts-search
ghosts-search a = record { name = a.blank.name; parts = a.blank.parts }
