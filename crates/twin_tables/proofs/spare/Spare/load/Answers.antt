use Rattle.std.proofs.Common.{ap, ◌∙◌}
use Rattle.board_rule.specs.declared.view.View.{View}
use Rattle.twin_tables.specs.Reads.{read_by}
use Rattle.twin_tables.specs.Lent.{spare_shape, spare_view}
use Rattle.twin_tables.proofs.Reading.{read-more}
use Rattle.twin_tables.proofs.spare.Spare.load.Goals as goal

pub returns-clause-read : goal.returns-clause-read
returns-clause-read c =
    let s = c.args.self.now in
    ap (λ (u : View). read_by (spare_shape s) s.first u.looks) c.read.ensures.view ∙ read-more (spare_shape s) s.first c.args.i c.read.result (spare_view s).looks
