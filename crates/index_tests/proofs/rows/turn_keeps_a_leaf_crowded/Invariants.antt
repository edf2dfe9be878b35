use Rattle.index_tests.proofs.rows.turn_keeps_a_leaf_crowded.Given as goal

abbrev pub ghosts-leaf_is_crowded : goal.ghosts-leaf_is_crowded
ghosts-leaf_is_crowded a = record { name = a.blank.name; parts = a.blank.parts }
