use Rattle.leaf_table.proofs.looks.seek_key.Goals as goal

pub returns-clause-leaf : goal.returns-clause-leaf
returns-clause-leaf g c = c.seek-sought.ensures.leaf _ c.requires.stands
