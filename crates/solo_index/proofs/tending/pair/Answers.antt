use Rattle.std.proofs.Common.{ap}
use Rattle.row_words.specs.declared.shape.Shape.{Shape}
use Rattle.solo_index.proofs.Pairing.{before_all, behind_all, pair_found, pair_few}
use Rattle.solo_index.proofs.tending.pair.Goals as goal

pub size_of-left-requires : goal.size_of-left-requires
size_of-left-requires c = before_all c.args.table.now.anchors c.args.leaf c.args.beside.left c.shape-merge_sum.ensures.whole.anchors.rises c.requires.beside.before

pub size_of-right-requires : goal.size_of-right-requires
size_of-right-requires c = behind_all c.args.table.now.anchors c.args.leaf c.args.beside.right c.shape-merge_sum.ensures.whole.anchors.rises c.requires.beside.behind

pub returns-clause-pair : goal.returns-clause-pair
returns-clause-pair c = pair_found c.args.table.now c.args.leaf c.shape-merge_sum.ensures.whole c.args.beside.left c.args.beside.right c.requires.beside.before c.requires.beside.behind
    c.size.result c.shape-merge_sum.result.merge_sum c.size_of-left.result c.size_of-right.result c.partner-side.result c.on_side.result c.size.ensures (ap (λ (k : Shape). k.merge_sum) c.shape-merge_sum.ensures.shape) c.size_of-left.ensures c.size_of-right.ensures c.partner-side.ensures c.on_side.ensures

pub returns-clause-few : goal.returns-clause-few
returns-clause-few c = pair_few c.args.table.now c.args.leaf c.shape-merge_sum.ensures.whole c.args.beside.left c.args.beside.right c.requires.beside.before c.requires.beside.behind
    c.size.result c.shape-merge_sum.result.merge_sum c.size_of-left.result c.size_of-right.result c.partner-side.result c.on_side.result c.size.ensures (ap (λ (k : Shape). k.merge_sum) c.shape-merge_sum.ensures.shape) c.size_of-left.ensures c.size_of-right.ensures c.partner-side.ensures c.on_side.ensures
