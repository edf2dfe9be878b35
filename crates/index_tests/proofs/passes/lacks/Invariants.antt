use Rattle.index_tests.proofs.passes.lacks.Given as goal

abbrev pub ghosts-lacks_counting : goal.ghosts-lacks_counting
ghosts-lacks_counting a = record { name = a.blank.name; parts = a.blank.parts }
