use Rattle.std.proofs.Common.{◌≡◌, ap, sym, ◌∙◌, subst, rules, is_some}
use Rattle.map_model.specs.Maps.{IsMap, with}
use Rattle.map_model.specs.Places.{IsAt, IsGapFor}
use Rattle.map_model.proofs.Finds.{ascending_with}
use Rattle.map_model.proofs.Places.{find_value, find_gap, with_gap, written_at}
use Rattle.map_model.proofs.plain.PlainMap.set.Goals as goal

-- the key was there, and its value is written over
pub invariant_of-self : goal.invariant_of-self
invariant_of-self c =
    let at = subst (λ p. IsAt p c.args.key.now c.in-Ok.at) (sym c.self.view_is) c.in-Ok.ensures.at in
    subst IsMap (sym (written_at _ _ _ at c.index_mut.result.now c.in_ok-value-in-Ok.value c.index_mut.ensures.value)) (ascending_with c.self.inside.pairs.items c.args.key.now c.in_ok-value-in-Ok.value c.self.invariant)

pub returns-in_ok-value-in-Ok-clause-map : goal.returns-in_ok-value-in-Ok-clause-map
returns-in_ok-value-in-Ok-clause-map c =
    let at = subst (λ p. IsAt p c.args.key.now c.in-Ok.at) (sym c.self.view_is) c.in-Ok.ensures.at in
    let same : c.in_ok-value-in-Ok.value ≡ c.args.value.now = search rules in
    written_at _ _ _ at c.index_mut.result.now c.in_ok-value-in-Ok.value c.index_mut.ensures.value
    ∙ (ap (λ v. with c.self.inside.pairs.items c.args.key.now v) same ∙ ap (λ m. with m c.args.key.now c.args.value.now) c.self.view_is)

pub returns-in_ok-value-in-Ok-clause-old : goal.returns-in_ok-value-in-Ok-clause-old
returns-in_ok-value-in-Ok-clause-old c = ap is_some (find_value _ _ _ c.in-Ok.ensures.at)

-- the pair goes into the gap
pub invariant_of-self-in-Err : goal.invariant_of-self-in-Err
invariant_of-self-in-Err c =
    let gap = subst (λ p. IsGapFor p c.args.key.now c.in-Err.at) (sym c.self.view_is) c.in-Err.ensures.gap in
    let key : c.in_ok-key-in-Err.key ≡ c.args.key.now = search rules in
    let value : c.in_ok-value-in-Err.value ≡ c.args.value.now = search rules in
    rw (c.in_ok-insert-in-Err.ensures.items, key, with_gap _ _ _ gap c.in_ok-value-in-Err.value) (ascending_with c.self.inside.pairs.items c.args.key.now c.in_ok-value-in-Err.value c.self.invariant)

pub returns-in_ok-insert-in-Err-clause-map : goal.returns-in_ok-insert-in-Err-clause-map
returns-in_ok-insert-in-Err-clause-map c =
    let key : c.in_ok-key-in-Err.key ≡ c.args.key.now = search rules in
    let value : c.in_ok-value-in-Err.value ≡ c.args.value.now = search rules in
    rw (c.in_ok-insert-in-Err.ensures.items, key, value, c.self.view_is) (with_gap _ _ _ c.in-Err.ensures.gap c.args.value.now)

pub returns-in_ok-insert-in-Err-clause-new : goal.returns-in_ok-insert-in-Err-clause-new
returns-in_ok-insert-in-Err-clause-new c = find_gap _ _ _ c.in-Err.ensures.gap
