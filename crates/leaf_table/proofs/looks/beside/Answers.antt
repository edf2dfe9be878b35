use Rattle.std.proofs.Common.{◌≡◌, true, subst}
use Rattle.anchor_rules.specs.Anchors.{has_leaf}
use Rattle.meta_trie.proofs.OnlyOne.{anchors_of-is}
use Rattle.row_words.specs.VecRows.{shape_of, words_of}
use Rattle.leaf_table.proofs.looks.beside.Goals as goal

pub neighbours-sides-requires-clause-table : goal.neighbours-sides-requires-clause-table
neighbours-sides-requires-clause-table g c = (_, c.requires.stands)

pub neighbours-sides-requires-clause-live : goal.neighbours-sides-requires-clause-live
neighbours-sides-requires-clause-live g c = λ A s. subst (λ B. has_leaf B c.args.leaf ≡ true) (anchors_of-is (shape_of c.args.rows.now) (words_of c.args.rows.now) A s) c.requires.live

pub returns-clause-beside : goal.returns-clause-beside
returns-clause-beside g c = record {
  before = c.neighbours-sides.ensures.before _ c.requires.stands;
  behind = c.neighbours-sides.ensures.behind _ c.requires.stands;
}
