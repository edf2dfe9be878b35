use Rattle.meta_trie.proofs.Shrinking.{says_shrunk}
use Rattle.meta_trie.proofs.shrinks.shrunk_row.Goals as goal

pub returns-clause-says : goal.returns-clause-says
returns-clause-says c = λ it says. says_shrunk c.args.item.now _ c.args.anchor.now c.args.n c.args.left c.args.after c.args.keeps_first c.args.keeps_last c.args.keeps_child it c.requires.within says c.unless.ensures c.kept_or.ensures c.kept_or-2.ensures c.without_child.ensures
