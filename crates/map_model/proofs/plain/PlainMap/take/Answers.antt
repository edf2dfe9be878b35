use Rattle.std.proofs.Common.{ap, sym, ◌∙◌, subst, is_some}
use Rattle.map_model.specs.Maps.{IsMap}
use Rattle.map_model.specs.Places.{IsAt}
use Rattle.map_model.proofs.Finds.{ascending_keep}
use Rattle.map_model.proofs.Places.{find_value, find_gap, without_at, without_gap}
use Rattle.map_model.proofs.plain.PlainMap.take.Goals as goal

pub invariant_of-self : goal.invariant_of-self
invariant_of-self c =
    let at = subst (λ p. IsAt p c.args.key.now c.in-Ok.at) (sym c.self.view_is) c.in-Ok.ensures.at in
    subst IsMap (sym (c.remove.ensures.items ∙ without_at _ _ _ at)) (ascending_keep _ c.self.inside.pairs.items c.self.invariant)

pub returns-in-Ok-clause-map : goal.returns-in-Ok-clause-map
returns-in-Ok-clause-map c = rw (c.remove.ensures.items, c.self.view_is) (without_at _ _ _ c.in-Ok.ensures.at)

pub returns-in-Ok-clause-gone : goal.returns-in-Ok-clause-gone
returns-in-Ok-clause-gone c = sym (ap is_some (find_value _ _ _ c.in-Ok.ensures.at))

pub returns-in-Err-clause-map : goal.returns-in-Err-clause-map
returns-in-Err-clause-map c = sym (without_gap _ _ _ c.in-Err.ensures.gap)

pub returns-in-Err-clause-gone : goal.returns-in-Err-clause-gone
returns-in-Err-clause-gone c = sym (ap is_some (find_gap _ _ _ c.in-Err.ensures.gap))
