use Rattle.std.proofs.Common.{IfOk, subst, ◌≡◌, Err, refl, sym, ap, ◌∙◌}
use mathlib.Core.List.{IsPrefix}
use Rattle.line_protocol.specs.Requests.{Asked}
use Rattle.line_protocol.specs.declared.fault.RequestFault.TheVariants as faults
use Rattle.outside.proofs.Pieces.{wrote_none}
use Rattle.session.specs.Asked.{if_any, has_quit}
use Rattle.session.proofs.AskedLists.{quit_one}
use Rattle.session.proofs.Joining.{transcribes_none, transcribes_told}
use Rattle.session.proofs.OneCall.{line_told, reaches_all}
use Rattle.session.proofs.Turning.{torn_none}
use Rattle.session.proofs.lines.serve_line.Goals as goal

pub returns-in-Ok-None-clause-served : goal.returns-in-Ok-None-clause-served
returns-in-Ok-None-clause-served g c =
    let is = rw c.in-Ok-None.field-0-is at c.in-Ok-None.ensures.answers in
    transcribes_none _ _ _ _ _ _ _ _ _ (λ old history. g.met.O.Ordered.stands_legal _ old history) (sym (ap if_any is)) (wrote_none _)

pub returns-in-Ok-None-clause-quit : goal.returns-in-Ok-None-clause-quit
returns-in-Ok-None-clause-quit g c =
    let is = rw c.in-Ok-None.field-0-is at c.in-Ok-None.ensures.answers in
    sym (ap (λ (r : Asked). has_quit (if_any r)) is)

pub returns-in-Ok-clause-served : goal.returns-in-Ok-clause-served
returns-in-Ok-clause-served g c =
    let is = rw c.in-Ok-Some.field-0-is at c.in-Ok-Some.ensures.answers in
    transcribes_told _ _ _ _ _ _ _ _ _ _ _ _ _ _ (λ xs p. p ∙ sym (ap if_any is)) (λ xs p. p) c.in-Ok.ensures.served

pub returns-in-Ok-clause-quit : goal.returns-in-Ok-clause-quit
returns-in-Ok-clause-quit g c =
    let is = rw c.in-Ok-Some.field-0-is at c.in-Ok-Some.ensures.answers in
    c.is_last-last.ensures ∙ (sym (quit_one _) ∙ sym (ap (λ (r : Asked). has_quit (if_any r)) is))

pub returns-in-Err-clause-served : goal.returns-in-Err-clause-served
returns-in-Err-clause-served g c =
    let is = rw c.in-Ok-Some.field-0-is at c.in-Ok-Some.ensures.answers in
    transcribes_told _ _ _ _ _ _ _ _ _ _ _ _ _ _ (λ xs p. subst (IsPrefix xs) (sym (ap if_any is)) p) (λ xs p. p) c.in-Err.ensures.served

pub returns-in-Err-Fault-clause-served : goal.returns-in-Err-Fault-clause-served
returns-in-Err-Fault-clause-served g c =
    let is = rw c.in-Err-Fault.field-0-is at c.in-Err-Fault.ensures.answers in
    transcribes_told _ _ _ _ _ _ _ _ _ _ _ _ _ _ (λ xs p. reaches_all c.reply_fault.result _ xs (p ∙ sym (ap if_any is))) (λ xs p. p)
    (line_told _ _ _ _ (Err (faults.Fault c.in-Err-Fault.fault)) _ _ _ _ _ _ _ (λ seen x told. told) (λ old history. g.met.O.Ordered.stands_legal _ old history) (rw c.in-Err-Fault.field-0-is at c.reply_fault.ensures.gained))

pub returns-in-Err-Fault-clause-quit : goal.returns-in-Err-Fault-clause-quit
returns-in-Err-Fault-clause-quit g c =
    let is = rw c.in-Err-Fault.field-0-is at c.in-Err-Fault.ensures.answers in
    subst (λ b. IfOk c.reply_fault.result (λ quit. quit ≡ b)) (sym (ap (λ (r : Asked). has_quit (if_any r)) is)) c.reply_fault.ensures.quit

pub returns-in-Err-NoMemory-clause-served : goal.returns-in-Err-NoMemory-clause-served
returns-in-Err-NoMemory-clause-served g c =
    transcribes_none _ _ _ _ _ _ _ _ _ (λ old history. g.met.O.Ordered.stands_legal _ old history) (_, refl) (torn_none _)
