use Rattle.index_tests.proofs.splits.word_row.Given as goal

abbrev pub ghosts-words_tell_versions : goal.ghosts-words_tell_versions
ghosts-words_tell_versions a = record { name = a.blank.name; parts = a.blank.parts }
