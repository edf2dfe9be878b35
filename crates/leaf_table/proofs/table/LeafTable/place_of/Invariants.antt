use Rattle.leaf_table.proofs.table.LeafTable.place_of.Given as goal

abbrev pub ghosts-seek_key : goal.ghosts-seek_key
ghosts-seek_key a = record { name = a.blank.name; parts = a.blank.parts }
