use Rattle.std.proofs.Common.{sym, ◌∙◌, arith}
use Rattle.lane_stores.proofs.Joins.{forking}
use Rattle.lane_stores.proofs.shared.SharedMap.split.Goals as goal

pub split_seat-requires : goal.split_seat-requires
split_seat-requires c =
    let m = c.args.self.now in
    (c.requires.of, omega (arith, m.sized.0), forking _ _ _ (c.requires.idle.fixed ∙ sym m.keyed) c.requires.room c.requires.idle.idle)
