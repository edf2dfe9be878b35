use Rattle.index_tests.proofs.splits.let_be_row.Given as goal

abbrev pub ghosts-only_leaf_is_let_be : goal.ghosts-only_leaf_is_let_be
ghosts-only_leaf_is_let_be a = record { name = a.blank.name; parts = a.blank.parts }
