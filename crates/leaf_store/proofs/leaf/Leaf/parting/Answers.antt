use Rattle.std.proofs.Common.{◌≡◌, ℕ, List, length, arith, ap, ◌∙◌, subst, IfOk}
use Rattle.map_model.specs.Halves.{parting}
use Rattle.map_model.specs.Maps.{Pairs}
use Rattle.leaf_store.proofs.Partings.{sides_ascend, sides_part}
use Rattle.leaf_store.proofs.leaf.Leaf.parting.Goals as goal

pub separator-requires : goal.separator-requires
separator-requires g c =
    let m = c.arrange_rows.new.self.map in
    let n : length m ≡ length c.args.self.now.map = ap length c.arrange_rows.ensures.map in
    sides_ascend m c.len.ensures.ascending (omega (arith, c.requires, n)) _ _ (c.at.result.0.now, c.at.result.1.now) (c.at-2.result.0.now, c.at-2.result.1.now)
    (omega (arith, c.len.ensures.len, c.len-2.ensures.len)) (omega (arith, c.len.ensures.len, c.len-2.ensures.len)) (c.at.ensures _) (c.at-2.ensures _)

pub returns-clause-key : goal.returns-clause-key
returns-clause-key g c =
    let m = c.arrange_rows.new.self.map in
    let n : length m ≡ length c.args.self.now.map = ap length c.arrange_rows.ensures.map in
    let part = sides_part m c.len.ensures.ascending (omega (arith, c.requires, n)) _ _ (c.at.result.0.now, c.at.result.1.now) (c.at-2.result.0.now, c.at-2.result.1.now)
    (omega (arith, c.len.ensures.len, c.len-2.ensures.len)) (omega (arith, c.len.ensures.len, c.len-2.ensures.len)) (c.at.ensures _) (c.at-2.ensures _) in
    subst (λ (t : List ℕ). IfOk c.separator.result (λ k. k ≡ t)) (part ∙ ap (λ (p : Pairs _). parting p) c.arrange_rows.ensures.map) c.separator.ensures.key
