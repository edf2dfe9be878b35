use Rattle.lane_stores.specs.Calls.{told_by}
use Rattle.lane_stores.proofs.Keeping.{unlocking}
use Rattle.lane_stores.proofs.Entering.{goes_after, goes_legal, goes_numbered, goes_lanes}
use Rattle.lane_stores.proofs.shared.SharedMap.give.Goals as goal

pub give_as-requires : goal.give_as-requires
give_as-requires c =
    let out = c.requires.out in
    let lane = c.args.lane in
    let seen = c.args.seat.now.me.0.seen in
    let told = told_by c.args.deed.now in
    (c.requires.of, unlocking _ _ _ lane c.args.seat.now.me _ _ out.holds out.out (goes_after lane seen told _ c.requires.goes) (goes_legal lane seen told _ c.requires.goes out.of.legal) (goes_numbered lane seen told out.of.numbered) (goes_lanes lane seen told) out.mine)
