use Rattle.meta_trie.proofs.Growing.{says_grown}
use Rattle.meta_trie.proofs.grows.grown_row.Goals as goal

pub returns-clause-says : goal.returns-clause-says
returns-clause-says c = λ it says. says_grown c.args.item.now _ c.args.anchor.now c.args.n c.args.leaf c.args.keeps_first c.args.keeps_last it c.requires.within says c.either.ensures c.kept_or.ensures c.kept_or-2.ensures c.with_child.ensures
