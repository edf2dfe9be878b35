use Rattle.std.proofs.Common.{sym, ap, ◌∙◌, refl, None}
use Rattle.key_bytes.specs.Fnv.{fnv_start}
use Rattle.key_bytes.proofs.Hashes.{prefix_hash-nil}
use Rattle.meta_trie.proofs.Starting.{started, bare}
use Rattle.meta_trie.proofs.starts.start_zeroed.Goals as goal

pub returns-clause-table : goal.returns-clause-table
returns-clause-table g c = rw c.link_item.ensures.shape (started _ _ _ _ _ c.lay_bare.ensures.words c.link_item.ensures.words refl)

pub link_item-requires-clause-trie : goal.link_item-requires-clause-trie
link_item-requires-clause-trie g c = ((λ p. None), bare _ _ c.lay_bare.ensures.words)

pub link_item-requires-clause-hash : goal.link_item-requires-clause-hash
link_item-requires-clause-hash g c = c.start-hash.ensures ∙ ap fnv_start c.salt.ensures ∙ sym (prefix_hash-nil _)
