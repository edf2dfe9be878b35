use Rattle.std.proofs.Common.{ap, arith}
use Rattle.outside.specs.Reading.{Told}
use Rattle.fill_runs.proofs.Filling.{all_by, want_by, never_by, none_by_want}
use Rattle.fill_runs.proofs.fills.serve_generated.Goals as goal

-- nothing was served
pub returns-in-Err-clause-served : goal.returns-in-Err-clause-served
returns-in-Err-clause-served g c = none_by_want c.args.number c.args.count (omega arith) _ _ _ _ _ _ (λ old history. g.met.O.Ordered.stands_legal _ old history)

pub returns-in-Err-new-clause-served : goal.returns-in-Err-new-clause-served
returns-in-Err-new-clause-served g c = none_by_want c.args.number c.args.count (omega arith) _ _ _ _ _ _ (λ old history. g.met.O.Ordered.stands_legal _ old history)

pub returns-in-EndOfInput-clause-served : goal.returns-in-EndOfInput-clause-served
returns-in-EndOfInput-clause-served g c =
    all_by c.args.number c.args.count (omega arith) _ (ap (λ (t : Told). t.left) c.in-Ok.ensures.told) _ _ _ _ _ _ _ _ _ _ _ c.serve.result c.in-Ok-new.tally c.in-Ok-new.ensures c.in-EndOfInput.is c.serve.ensures.session

pub returns-in-NoMemory-clause-served : goal.returns-in-NoMemory-clause-served
returns-in-NoMemory-clause-served g c =
    want_by c.args.number c.args.count (omega arith) _ (ap (λ (t : Told). t.left) c.in-Ok.ensures.told) _ _ _ _ _ _ _ _ _ _ _ c.in-Ok-new.tally c.in-Ok-new.ensures c.in-NoMemory.ensures.session

pub unreachable-requires : goal.unreachable-requires
unreachable-requires g c =
    never_by c.args.number c.args.count (omega arith) _ (ap (λ (t : Told). t.left) c.in-Ok.ensures.told) _ _ _ _ _ _ _ _ _ _ _ c.serve.result _ c.serve.ensures.read c.serve.ensures.write c.in-ReadFault.is c.serve.ensures.session
