use Rattle.index_tests.proofs.splits.stale_row.Given as goal

abbrev pub ghosts-stale_after_a_split : goal.ghosts-stale_after_a_split
ghosts-stale_after_a_split a = record { name = a.blank.name; parts = a.blank.parts }
