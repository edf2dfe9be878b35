use Rattle.meta_trie.proofs.adds.add_anchor_words.Given as goal

abbrev pub ghosts-add_counting : goal.ghosts-add_counting
ghosts-add_counting g a = record { name = a.blank.name; parts = a.blank.parts }
