use Rattle.row_words.specs.VecRows.{shape_of, words_of}
use Rattle.meta_trie.specs.Stands.{StandsFor}
use Rattle.whole_tests.proofs.table_changes.are_same_places.Given as goal

abbrev pub ghosts-is_same_place : goal.ghosts-is_same_place
ghosts-is_same_place a = record { name = a.blank.name; parts = a.blank.parts }

abbrev pub invariant-loop-i : goal.invariant-loop-i
invariant-loop-i l = StandsFor (shape_of l.rows) (words_of l.rows) l.anchors
