use Rattle.row_words.specs.VecRows.{shape_of, words_of}
use Rattle.meta_trie.specs.Stands.{anchors_of}
use Rattle.leaf_pages.proofs.PartEnds.{located_from}
use Rattle.leaf_table.proofs.parts.locate_from.Goals as goal

pub returns-clause-leaf : goal.returns-clause-leaf
returns-clause-leaf g c = (located_from (anchors_of (shape_of c.args.rows.now) (words_of c.args.rows.now)) c.args.from.now c.locate_end.result (λ key at. c.locate_end.ensures.key key at _ c.requires.stands) (λ none. c.locate_end.ensures.first none _ c.requires.stands)).0

pub returns-clause-next : goal.returns-clause-next
returns-clause-next g c = (located_from (anchors_of (shape_of c.args.rows.now) (words_of c.args.rows.now)) c.args.from.now c.locate_end.result (λ key at. c.locate_end.ensures.key key at _ c.requires.stands) (λ none. c.locate_end.ensures.first none _ c.requires.stands)).1
