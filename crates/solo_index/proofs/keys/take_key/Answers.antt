use Rattle.std.proofs.Common.{◌∙◌, true, sym}
use Rattle.solo_index.proofs.Pairing.{taken_is}
use Rattle.solo_index.proofs.keys.take_key.Goals as goal

pub returns-clause-taken : goal.returns-clause-taken
returns-clause-taken c = taken_is c.args.table.now c.place_of-place.new.self c.remove.new.self c.tend_small-tended.new.table c.args.key.now c.place_of-place.result.leaf true c.tend_small-tended.result
    c.place_of-place.ensures.same c.remove.ensures.map c.place_of-place.ensures.place.leaf (sym c.if-not-remove.false ∙ c.remove.ensures.gone) c.tend_small-tended.ensures
