use Rattle.index_tests.proofs.held.shared_leaf_row.Given as goal

abbrev pub ghosts-two_lanes_share_a_leaf : goal.ghosts-two_lanes_share_a_leaf
ghosts-two_lanes_share_a_leaf a = record { name = a.blank.name; parts = a.blank.parts }
