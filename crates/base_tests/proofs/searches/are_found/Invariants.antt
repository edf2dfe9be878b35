use Rattle.row_words.specs.VecRows.{shape_of, words_of}
use Rattle.meta_trie.specs.Stands.{IsTable}
use Rattle.base_tests.proofs.searches.are_found.Given as goal

abbrev pub invariant-loop-text : goal.invariant-loop-text
invariant-loop-text l = IsTable (shape_of l.rows) (words_of l.rows)
