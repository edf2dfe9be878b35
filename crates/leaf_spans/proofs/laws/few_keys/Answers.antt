use Rattle.leaf_spans.proofs.Counts.{few_call, few_split_in, few_merge_in}
use Rattle.leaf_spans.proofs.laws.few_keys.Goals as goal

pub returns-clause-call : goal.returns-clause-call
returns-clause-call c A m leaf s call hard are up is lies here few = few_call A are m up leaf s is call lies hard here few

pub returns-clause-split : goal.returns-clause-split
returns-clause-split c A m left right soft hard are up some large dead few = few_split_in A are m up left right soft some large dead hard few

pub returns-clause-merge : goal.returns-clause-merge
returns-clause-merge c A m left right merge_sum hard are up within next small few = few_merge_in A are m up left right merge_sum next small hard within few
