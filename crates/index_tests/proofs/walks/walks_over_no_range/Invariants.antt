use Rattle.index_tests.proofs.walks.walks_over_no_range.Given as goal

abbrev pub ghosts-empty_range_has_no_part : goal.ghosts-empty_range_has_no_part
ghosts-empty_range_has_no_part a = record { name = a.blank.name; parts = a.blank.parts }
