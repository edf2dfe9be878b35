use Rattle.index_tests.proofs.rows.few_pairs_of_a_leaf.Given as goal

abbrev pub ghosts-few_end_at_the_next_key : goal.ghosts-few_end_at_the_next_key
ghosts-few_end_at_the_next_key a = record { name = a.blank.name; parts = a.blank.parts }
