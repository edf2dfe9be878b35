use Rattle.std.proofs.Common.{true, false, inl, inr}
use Rattle.map_model.specs.Calls as calls
use Rattle.map_model.specs.Ordered.{was_gone}
use Rattle.session.proofs.OneCall.{call_answered, call_refused, not_full}
use Rattle.session.proofs.requests.serve_del.Goals as goal

pub returns-in-Ok-true-clause-served : goal.returns-in-Ok-true-clause-served
returns-in-Ok-true-clause-served g c =
    call_answered _ _ _ _ _ _ _ _ _ _ _ _ _ _ (calls.Del c.args.key.now) (was_gone true) (λ seen x answered. inl answered) c.reply.ensures.gained c.in-Ok-true.ensures.told (rw c.in-Ok-true.field-0-test at c.in-Ok-true.ensures.ok)

pub returns-in-Ok-false-clause-served : goal.returns-in-Ok-false-clause-served
returns-in-Ok-false-clause-served g c =
    call_answered _ _ _ _ _ _ _ _ _ _ _ _ _ _ (calls.Del c.args.key.now) (was_gone false) (λ seen x answered. inl answered) c.reply-in-Ok-false.ensures.gained c.in-Ok-false.ensures.told (rw c.in-Ok-false.field-0-test at c.in-Ok-false.ensures.ok)

pub returns-in-Err-clause-served : goal.returns-in-Err-clause-served
returns-in-Err-clause-served g c =
    call_refused _ _ _ _ _ _ _ _ _ _ _ _ _ _ (calls.Del c.args.key.now) c.in-Err.refusal (λ seen x refused. inr refused) c.refuse.ensures.gained c.in-Err.ensures.told.1
    (λ seen history full. not_full c.in-Err.refusal full c.in-Err.ensures.room) c.in-Err.ensures.refused
