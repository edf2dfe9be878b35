use Rattle.std.proofs.Common.{sym, ap, ◌∙◌, arith}
use Rattle.lane_stores.proofs.Keeping.{looking}
use Rattle.lane_stores.proofs.Joins.{ending}
use Rattle.lane_stores.proofs.shared.SharedMap.join.Goals as goal

pub join_seat-requires : goal.join_seat-requires
join_seat-requires c =
    let m = c.args.self.now in
    (c.requires.of.0, c.requires.of.1, c.requires.other.0, omega (arith, m.sized.0), ending _ _ _ _ _ (c.requires.idle.fixed ∙ sym m.keyed) c.requires.idle.idle c.requires.other.1)

pub load-requires : goal.load-requires
load-requires c =
    let m = c.args.self.now in
    let joined = c.join_seat.ensures in
    (joined.0 ∙ c.requires.of.0, omega (arith, m.sized.0), looking _ _ _ _ (ap (λ (x : _). x.0.most) joined.2 ∙ (c.requires.idle.fixed ∙ sym m.keyed)))
