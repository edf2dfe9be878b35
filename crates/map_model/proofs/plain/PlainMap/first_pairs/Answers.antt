use Rattle.std.proofs.Common.{inr, ◌≡◌, ◌-◌, ap, sym, ◌∙◌, subst, rules, arith, take, drop}
use Rattle.key_bytes.specs.Bound.{bound_cmp}
use Rattle.key_bytes.specs.declared.bound.Bound.TheVariants.{At}
use Rattle.map_model.specs.Maps.{IsMap, between}
use Rattle.map_model.proofs.Cuts.{between_cuts, part_pairs, part_above, part_within, part_stops, end_within}
use Rattle.map_model.proofs.plain.PlainMap.first_pairs.Goals as goal

pub returns-in_ok-fill-clause-pairs : goal.returns-in_ok-fill-clause-pairs
returns-in_ok-fill-clause-pairs c =
    let m = c.args.self.now in
    let p = c.places-start in
    let up = subst IsMap c.self.view_is c.self.invariant in
    let key : c.in_ok-copy.field-0 ≡ c.index.result.now.0 = search rules in
    let read = rw c.self.view_is at c.index.ensures in
    let filled = rw (c.deref.ensures.value, c.self.view_is) at c.in_ok-fill.ensures.ok in
    filled ∙ (sym (part_pairs m up c.args.from.now c.args.to.now p.result.0 p.result.1 _ p.ensures.from p.ensures.to c.index.result.now read (omega arith) (omega arith))
    ∙ ap (λ k. between m c.args.from.now (At k)) (sym key))

pub returns-in_ok-fill-clause-above : goal.returns-in_ok-fill-clause-above
returns-in_ok-fill-clause-above c =
    let p = c.places-start in
    let up = subst IsMap c.self.view_is c.self.invariant in
    let key : c.in_ok-copy.field-0 ≡ c.index.result.now.0 = search rules in
    let read = rw c.self.view_is at c.index.ensures in
    ap (λ k. bound_cmp c.args.from.now (At k)) key ∙ part_above c.args.self.now up c.args.from.now c.args.to.now p.result.0 p.result.1 _ p.ensures.from p.ensures.to c.index.result.now read (omega arith) (omega arith)

pub returns-in_ok-fill-clause-within : goal.returns-in_ok-fill-clause-within
returns-in_ok-fill-clause-within c =
    let p = c.places-start in
    let up = subst IsMap c.self.view_is c.self.invariant in
    let key : c.in_ok-copy.field-0 ≡ c.index.result.now.0 = search rules in
    let read = rw c.self.view_is at c.index.ensures in
    λ e. part_within c.args.self.now up c.args.from.now c.args.to.now p.result.0 p.result.1 _ p.ensures.from p.ensures.to c.index.result.now read (omega arith) (omega arith) (ap (λ k. bound_cmp (At k) c.args.to.now) (sym key) ∙ e)

pub returns-in_ok-fill-clause-end : goal.returns-in_ok-fill-clause-end
returns-in_ok-fill-clause-end c =
    let m = c.args.self.now in
    let p = c.places-start in
    let up = subst IsMap c.self.view_is c.self.invariant in
    let key : c.in_ok-copy.field-0 ≡ c.index.result.now.0 = search rules in
    let read = rw c.self.view_is at c.index.ensures in
    let filled = rw (c.deref.ensures.value, c.self.view_is) at c.in_ok-fill.ensures.ok in
    inr (part_stops m up c.args.from.now c.args.to.now p.result.0 p.result.1 _ p.ensures.from p.ensures.to c.index.result.now read (omega arith) (omega arith) c.in_ok-copy.field-0 _ key filled (omega arith))

pub returns-in_ok-fill-2-clause-pairs : goal.returns-in_ok-fill-2-clause-pairs
returns-in_ok-fill-2-clause-pairs c =
    let m = c.args.self.now in
    let p = c.places-start in
    let upto : c.in_ok-upto.upto ≡ c.args.to.now = search rules in
    c.in_ok-fill-2.ensures.ok ∙ (ap (λ xs. take (p.result.1 - p.result.0) (drop p.result.0 xs)) (c.deref-else-stop-start-gt-MOST_PAIRS.ensures.value ∙ c.self.view_is)
    ∙ (sym (between_cuts m c.args.from.now c.args.to.now p.result.0 p.result.1 p.ensures.from p.ensures.to p.ensures.ordered) ∙ ap (between m c.args.from.now) (sym upto)))

pub returns-in_ok-fill-2-clause-within : goal.returns-in_ok-fill-2-clause-within
returns-in_ok-fill-2-clause-within c =
    let upto : c.in_ok-upto.upto ≡ c.args.to.now = search rules in
    λ e. end_within c.args.to.now (ap (λ b. bound_cmp b c.args.to.now) (sym upto) ∙ e)
