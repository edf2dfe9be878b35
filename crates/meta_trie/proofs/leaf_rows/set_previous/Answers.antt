use Rattle.meta_trie.proofs.Splicing.{previous_set}
use Rattle.meta_trie.proofs.leaf_rows.set_previous.Goals as goal

pub returns-clause-words : goal.returns-clause-words
returns-clause-words g c = previous_set _ _ _ c.args.next c.args.link c.if-next-eq0.false c.set_link.ensures.words
