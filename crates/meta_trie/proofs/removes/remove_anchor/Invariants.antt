use Rattle.meta_trie.proofs.removes.remove_anchor.Given as goal

abbrev pub ghosts-remove_counting : goal.ghosts-remove_counting
ghosts-remove_counting g a = record { name = a.blank.name; parts = a.blank.parts }
