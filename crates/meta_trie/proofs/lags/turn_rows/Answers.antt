use Rattle.meta_trie.proofs.Turning.{lag_splits, lag_key, lag_leaf, lag_room, lag_split, lag_merges, lag_merge}
use Rattle.meta_trie.proofs.lags.turn_rows.Goals as goal

pub add_anchor_words-requires-clause-key : goal.add_anchor_words-requires-clause-key
add_anchor_words-requires-clause-key g c = lag_key _ _ _ c.requires _ _ _ c.in-Split.is

pub add_anchor_words-requires-clause-table : goal.add_anchor_words-requires-clause-table
add_anchor_words-requires-clause-table g c = lag_splits _ _ _ c.requires _ _ _ c.in-Split.is

pub add_anchor_words-requires-clause-leaf : goal.add_anchor_words-requires-clause-leaf
add_anchor_words-requires-clause-leaf g c = lag_leaf _ _ _ c.requires _ _ _ c.in-Split.is

pub unreachable-requires : goal.unreachable-requires
unreachable-requires g c = lag_room _ _ _ c.requires _ _ _ c.in-Split.is _ c.in-Err.ensures.full

pub remove_anchor-requires : goal.remove_anchor-requires
remove_anchor-requires g c = lag_merges _ _ _ c.requires _ _ c.in-Merge.is

pub returns-in-Ok-clause-turned : goal.returns-in-Ok-clause-turned
returns-in-Ok-clause-turned g c = λ A s. lag_split _ _ _ A _ _ _ c.in-Split.is (c.in-Ok.ensures.ok A s)

pub returns-in-Merge-clause-turned : goal.returns-in-Merge-clause-turned
returns-in-Merge-clause-turned g c = λ A s. lag_merge _ _ _ A _ _ c.in-Merge.is (c.remove_anchor.ensures.removed A s)
