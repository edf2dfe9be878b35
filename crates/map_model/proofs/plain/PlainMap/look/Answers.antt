use Rattle.std.proofs.Common.{ap, sym, ◌∙◌, Some, ◌++◌}
use Rattle.map_model.proofs.Places.{find_at, find_gap}
use Rattle.map_model.proofs.plain.PlainMap.look.Goals as goal

-- the value that was read is the one at the key
pub returns-in_ok-extend_from_slice-in-Ok-clause-found : goal.returns-in_ok-extend_from_slice-in-Ok-clause-found
returns-in_ok-extend_from_slice-in-Ok-clause-found c =
    let read = find_at c.args.self.now c.args.key.now c.in-Ok.at c.in-Ok.ensures.at c.index.result.now (rw c.self.view_is at c.index.ensures) in
    read ∙ ap Some (sym (c.in_ok-extend_from_slice-in-Ok.ensures.items ∙ (ap (λ v. v ++ c.get.result.now) c.clear.ensures.items ∙ c.get.ensures)))

pub returns-in-Err-clause-absent : goal.returns-in-Err-clause-absent
returns-in-Err-clause-absent c = (find_gap c.args.self.now c.args.key.now c.in-Err.field-0 c.in-Err.ensures.gap, c.clear.ensures.items)
