use Rattle.leaf_table.proofs.table.LeafTable.neighbours.Given as goal

abbrev pub ghosts-beside : goal.ghosts-beside
ghosts-beside a = record { name = a.blank.name; parts = a.blank.parts }
