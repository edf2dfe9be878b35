use Rattle.std.proofs.Common.{◌∷◌, sym, ap, ◌∙◌}
use Rattle.atomic_table.specs.Table.{rest}
use Rattle.lane_stores.specs.Calls.{map_in}
use Rattle.lane_stores.proofs.shared.SharedMap.first_pairs.Goals as goal

pub slot_mut-requires : goal.slot_mut-requires
slot_mut-requires c =
    let out = c.requires.out.out in
    (c.requires.of, (map_in c.args.seat.now.me.1, out ∙ ap (λ l. (0, map_in c.args.seat.now.me.1) ∷ rest l) (sym out)))
