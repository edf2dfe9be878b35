use Rattle.std.proofs.Common.{◌≡◌, IfOk, sym, ap, ◌∙◌, subst}
use Rattle.line_reader.specs.Cut.{last_line}
use Rattle.line_reader.specs.Told.{told}
use Rattle.session.specs.Asked.{asked_by_all, has_quit}
use Rattle.session.specs.Writes.{Reaches}
use Rattle.session.proofs.Joining.{transcribes_told}
use Rattle.session.proofs.lines.serve_rest.Goals as goal

pub serve_told-requires : goal.serve_told-requires
serve_told-requires g c =
    (last_line c.requires.0, sym (ap (told c.finish-event.result) c.line.ensures ∙ c.finish-event.ensures.told c.requires.0 c.requires.1))

pub returns-clause-served : goal.returns-clause-served
returns-clause-served g c = λ part holds.
    let path = ap (told c.finish-event.result) c.line.ensures ∙ c.finish-event.ensures.told part holds in
    transcribes_told _ _ _ _ _ _ _ _ _ _ _ _ _ _ (λ xs p. subst (λ all. Reaches c.serve_told.result (asked_by_all all) xs) path p) (λ xs p. p) c.serve_told.ensures.served

pub returns-clause-quit : goal.returns-clause-quit
returns-clause-quit g c = λ part holds.
    let path = ap (told c.finish-event.result) c.line.ensures ∙ c.finish-event.ensures.told part holds in
    subst (λ all. IfOk c.serve_told.result (λ quit. quit ≡ has_quit (asked_by_all all))) path c.serve_told.ensures.quit
