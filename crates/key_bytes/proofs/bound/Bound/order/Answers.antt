use Rattle.std.proofs.Common.{◌≡◌, ◌⊎◌, inl, inr, None, refl, ap, ◌∙◌}
use Rattle.std.specs.Ordering.{nat_cmp, ordering_index}
use Rattle.key_bytes.specs.Bound.{bound_cmp, key_of, side_of}
use Rattle.key_bytes.specs.declared.bound.Bound.{Bound}
use Rattle.key_bytes.specs.declared.bound.Bound.TheVariants.{Low, At, High}
use Rattle.key_bytes.proofs.bound.Bound.order.Goals as goal
use Rattle.key_bytes.proofs.bound.Bound.order.Goals.{in_default-via-in-Some+in_default, in_default-via-in_default}

-- unless both are at keys, the order is that of their sides
by_sides : (a b : Bound) → (key_of a ≡ None) ⊎ (key_of b ≡ None) → nat_cmp (ordering_index (side_of a)) (ordering_index (side_of b)) ≡ bound_cmp a b
by_sides Low Low none = refl
by_sides Low (At b) none = refl
by_sides Low High none = refl
by_sides (At a) Low none = refl
by_sides (At a) (At b) (inl e) = absurd (cc)
by_sides (At a) (At b) (inr e) = absurd (cc)
by_sides (At a) High none = refl
by_sides High Low none = refl
by_sides High (At b) none = refl
by_sides High High none = refl

pub returns-in_default-clause-order : goal.returns-in_default-clause-order
returns-in_default-clause-order c =
    let none : (key_of c.args.self.now ≡ None) ⊎ (key_of c.args.other.now ≡ None) = elim c.in_default.branch [
      | in_default-via-in-Some+in_default w ↦ inr w.in_default.ensures'.found
      | in_default-via-in_default w ↦ inl w.in_default.ensures.found
    ] in
    c.cmp-in_default.ensures ∙ (ap (λ s. nat_cmp (ordering_index s) (ordering_index c.side-in_default.result)) c.side.ensures ∙ (ap (λ s. nat_cmp (ordering_index (side_of c.args.self.now)) (ordering_index s)) c.side-in_default.ensures ∙ by_sides c.args.self.now c.args.other.now none))
