use Rattle.call_times.proofs.searches.time_searches.Given as goal

abbrev pub ghosts-time_both : goal.ghosts-time_both
ghosts-time_both g a = record { name = a.blank.name; parts = a.blank.parts }
