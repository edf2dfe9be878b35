use Rattle.row_words.specs.VecRows.{shape_of, words_of}
use Rattle.meta_trie.specs.Stands.{StandsFor}
use Rattle.whole_tests.proofs.table_changes.agrees_with_its_list.Given as goal

abbrev pub invariant-loop : goal.invariant-loop
invariant-loop l = StandsFor (shape_of l.rows) (words_of l.rows) l.anchors
