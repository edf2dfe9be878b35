use Rattle.leaf_table.proofs.table.LeafTable.part.Given as goal

abbrev pub ghosts-locate_from : goal.ghosts-locate_from
ghosts-locate_from a = record { name = a.blank.name; parts = a.blank.parts }
