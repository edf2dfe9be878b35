use Rattle.std.proofs.Common.{◌∙◌, arith}
use Rattle.map_model.proofs.Growing.{follows_then, stays_enters_last, follows_stays_stays}
use Rattle.patience.proofs.attempts.get_patiently.Goals as goal

pub returns-in-Ok-clause-ok : goal.returns-in-Ok-clause-ok
returns-in-Ok-clause-ok g c =
    let now = c.attempts.invariant in
    follows_then _ _ _ _ _ _ (stays_enters_last _ _ _ _) now.stays (rw (now.lane, now.sole) at c.in-Ok.ensures.ok)

pub returns-then-not-again-clause-refused : goal.returns-then-not-again-clause-refused
returns-then-not-again-clause-refused g c =
    let now = c.attempts.invariant in
    follows_stays_stays _ _ _ _ _ now.stays (rw (now.lane, now.sole) at c.in-Err-Again.ensures.refused)

pub attempts-preserved : goal.attempts-preserved
attempts-preserved g c =
    let now = c.attempts.invariant in
    let call = c.in-Err-Again.ensures in
    let k = rw c.in-Err-Again.field-0-is at call.counted in
    record {
      lane = call.kept.0 ∙ now.lane;
      sole = call.kept.1 ∙ now.sole;
      origin = call.kept.2 ∙ now.origin;
      forks = call.forks ∙ now.forks;
      limit = c.again.ensures.limit ∙ now.limit;
      fits = λ history fit. call.fits history (now.fits history fit);
      stays = follows_stays_stays _ _ _ _ _ now.stays (rw (now.lane, now.sole) at call.refused);
      later = omega (arith, k.0);
      counted = omega (arith, now.counted, k.2, c.saturating_add-tries.ensures);
    }

pub returns-in-Err-Full-clause-refused : goal.returns-in-Err-Full-clause-refused
returns-in-Err-Full-clause-refused g c =
    let now = c.attempts.invariant in
    follows_stays_stays _ _ _ _ _ now.stays (rw (now.lane, now.sole) at c.in-Err-Full.ensures.refused)

pub returns-in-Err-NoMemory-clause-refused : goal.returns-in-Err-NoMemory-clause-refused
returns-in-Err-NoMemory-clause-refused g c =
    let now = c.attempts.invariant in
    follows_stays_stays _ _ _ _ _ now.stays (rw (now.lane, now.sole) at c.in-Err-NoMemory.ensures.refused)
