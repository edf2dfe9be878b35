use Rattle.anchor_rules.proofs.Closings.{closed_anchors_apart}
use Rattle.anchor_rules.proofs.laws.closed_apart.Goals as goal

pub returns : goal.returns
returns c A are = closed_anchors_apart A are.rises
