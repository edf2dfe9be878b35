use Rattle.std.proofs.Common.{◌≡◌, List, ℕ, [], ◌++◌, Option, Some, Err, IfOk, sym, ap, ◌∙◌, subst}
use Rattle.std.proofs.lemmas.List.{append-nil}
use Rattle.line_reader.specs.Told.{told}
use Rattle.line_reader.specs.declared.lines.Event.{Event}
use Rattle.line_reader.proofs.Reading.{read_one}
use Rattle.line_protocol.specs.Requests.{Asked, request}
use Rattle.line_protocol.specs.declared.fault.Fault.TheVariants as causes
use Rattle.line_protocol.specs.declared.fault.RequestFault.TheVariants as faults
use Rattle.outside.proofs.Pieces.{wrote_none}
use Rattle.session.specs.Asked.{if_any, asked_by_all, has_quit}
use Rattle.session.specs.Writes.{Reaches}
use Rattle.session.proofs.Joining.{transcribes_none, transcribes_told}
use Rattle.session.proofs.OneCall.{line_told, reaches_all}
use Rattle.session.proofs.lines.serve_told.Goals as goal

-- what a line asks for that was told alone
alone : (event : Option Event) (line : List ℕ) (asked : List Asked) → asked_by_all (told event line) ≡ asked ++ [] → asked ≡ asked_by_all (told event line)
alone event line asked is = sym (is ∙ append-nil asked)

pub returns-in-None-clause-served : goal.returns-in-None-clause-served
returns-in-None-clause-served g c =
    transcribes_none _ _ _ _ _ _ _ _ _ (λ old history. g.met.O.Ordered.stands_legal _ old history) (sym (ap (λ (e : Option Event). asked_by_all (told e c.args.line.now)) c.in-None.is)) (wrote_none _)

pub returns-in-None-clause-quit : goal.returns-in-None-clause-quit
returns-in-None-clause-quit g c = sym (ap (λ (e : Option Event). has_quit (asked_by_all (told e c.args.line.now))) c.in-None.is)

pub serve_line-requires : goal.serve_line-requires
serve_line-requires g c =
    let event = c.in-Some.is ∙ ap Some c.in-Line.is in
    (read_one c.requires.0 c.args.line.now (c.requires.1 ∙ ap (λ (e : Option Event). told e c.args.line.now) event)).1

pub returns-in-Line-clause-served : goal.returns-in-Line-clause-served
returns-in-Line-clause-served g c =
    let line = c.args.line.now in
    let event = c.in-Some.is ∙ ap Some c.in-Line.is in
    let path = alone c.args.event line (if_any (request line)) (ap (λ (e : Option Event). asked_by_all (told e line)) event) in
    transcribes_told _ _ _ _ _ _ _ _ _ _ _ _ _ _ (λ xs p. subst (λ all. Reaches c.serve_line.result all xs) path p) (λ xs p. p) c.serve_line.ensures.served

pub returns-in-Line-clause-quit : goal.returns-in-Line-clause-quit
returns-in-Line-clause-quit g c =
    let line = c.args.line.now in
    let event = c.in-Some.is ∙ ap Some c.in-Line.is in
    let path = alone c.args.event line (if_any (request line)) (ap (λ (e : Option Event). asked_by_all (told e line)) event) in
    subst (λ all. IfOk c.serve_line.result (λ quit. quit ≡ has_quit all)) path c.serve_line.ensures.quit

pub returns-in-TooLong-clause-served : goal.returns-in-TooLong-clause-served
returns-in-TooLong-clause-served g c =
    let event = c.in-Some.is ∙ ap Some c.in-TooLong.is in
    let is = ap (λ (e : Option Event). asked_by_all (told e c.args.line.now)) event in
    transcribes_told _ _ _ _ _ _ _ _ _ _ _ _ _ _ (λ xs p. reaches_all c.reply_fault.result _ xs (p ∙ sym is)) (λ xs p. p)
    (line_told _ _ _ _ (Err (faults.Fault causes.Line)) _ _ _ _ _ _ _ (λ seen x said. said) (λ old history. g.met.O.Ordered.stands_legal _ old history) c.reply_fault.ensures.gained)

pub returns-in-TooLong-clause-quit : goal.returns-in-TooLong-clause-quit
returns-in-TooLong-clause-quit g c =
    let event = c.in-Some.is ∙ ap Some c.in-TooLong.is in
    subst (λ b. IfOk c.reply_fault.result (λ quit. quit ≡ b)) (sym (ap (λ (e : Option Event). has_quit (asked_by_all (told e c.args.line.now))) event)) c.reply_fault.ensures.quit
