use Rattle.std.proofs.Common.{◌∙◌, ℕ, List, ap}
use Rattle.map_model.specs.Maps.{with}
use Rattle.leaf_table.proofs.Overwritten.{with_found}
use Rattle.leaf_table.proofs.Written.{on_err}
use Rattle.leaf_table.proofs.writes.write_over.Goals as goal

pub returns-in_err-set-in-Some-clause-refused : goal.returns-in_err-set-in-Some-clause-refused
returns-in_err-set-in-Some-clause-refused c =
    on_err c.from_residual.result (ap (λ (v : List ℕ). with c.args.leaf.now.map c.args.key.now v) c.in_err-set-in-Some.ensures.refused ∙ with_found c.args.leaf.now.map c.requires.ascends c.args.key.now _ c.in-Some.ensures.value)
