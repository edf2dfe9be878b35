use Rattle.index_tests.proofs.splits.pin_row.Given as goal

abbrev pub ghosts-pin_outlasts_a_merge : goal.ghosts-pin_outlasts_a_merge
ghosts-pin_outlasts_a_merge a = record { name = a.blank.name; parts = a.blank.parts }
