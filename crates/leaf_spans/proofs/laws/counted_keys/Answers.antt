use Rattle.leaf_spans.proofs.Counts.{counted_first, counted_call, counted_split, counted_merge, leaves_bounded, changes_bounded}
use Rattle.leaf_spans.proofs.laws.counted_keys.Goals as goal

pub returns-clause-start : goal.returns-clause-start
returns-clause-start c size leaf soft none = counted_first size leaf soft none

pub returns-clause-call : goal.returns-clause-call
returns-clause-call c A m leaf s call are up is lies soft p q v longest longer counts more old = counted_call A are m up leaf s is call lies soft p q v longest longer counts more old

pub returns-clause-split : goal.returns-clause-split
returns-clause-split c A m left right soft p v longest are up some large dead all old = counted_split A are m up left right soft some large dead p v longest all old

pub returns-clause-merge : goal.returns-clause-merge
returns-clause-merge c A m left right soft merge_sum p v longest are up sum next small old = counted_merge A are m up left right merge_sum next small soft p v longest sum old

pub returns-clause-leaves : goal.returns-clause-leaves
returns-clause-leaves c A size soft p v longest count = leaves_bounded A size soft p v longest count

pub returns-clause-changes : goal.returns-clause-changes
returns-clause-changes c A size soft p v longest count = changes_bounded A size soft p v longest count
