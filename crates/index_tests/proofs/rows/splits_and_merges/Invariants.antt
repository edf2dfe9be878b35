use Rattle.index_tests.proofs.rows.splits_and_merges.Given as goal

abbrev pub ghosts-keys_come_and_go : goal.ghosts-keys_come_and_go
ghosts-keys_come_and_go a = record { name = a.blank.name; parts = a.blank.parts }
