use Rattle.std.proofs.Common.{◌≡◌, List, ℕ, [], ◌∷◌, take, Some, sym, ap, ◌∙◌, subst}
use Rattle.std.proofs.lemmas.List.{append-nil}
use Rattle.line_reader.specs.Told.{Told, told, told_lines}
use Rattle.line_reader.specs.Told.Told.{Read}
use Rattle.line_reader.specs.declared.lines.Event.TheVariants as events
use Rattle.line_protocol.specs.Requests.{request}
use Rattle.session.specs.Asked.{if_any, asked_by_all, upto_quit}
use Rattle.session.specs.Writes.{Reaches}
use Rattle.session.proofs.AskedLists.{upto_told}
use Rattle.session.proofs.Joining.{transcribes_told}
use Rattle.session.proofs.lines.serve_next.Goals as goal

-- what one line asks for, as told
one_asks : (line : List ℕ) (told : List Told) → told ≡ Read line ∷ [] → if_any (request line) ≡ upto_quit (asked_by_all told)
one_asks line told is = sym (ap (λ ts. upto_quit (asked_by_all ts)) is ∙ (upto_told (Some events.Line) line ∙ append-nil (if_any (request line))))

pub returns-in-Some-clause-served : goal.returns-in-Some-clause-served
returns-in-Some-clause-served g c = λ part holds.
    let path = one_asks c.in-Some.whole.line.now (told_lines part (take c.in-Some.whole.used c.args.piece.now)) (c.in-Some.ensures.told part holds) in
    transcribes_told _ _ _ _ _ _ _ _ _ _ _ _ _ _ (λ xs p. subst (λ all. Reaches c.serve_line.result all xs) path p) (λ xs p. p) c.serve_line.ensures.served

pub returns-in-None-clause-served : goal.returns-in-None-clause-served
returns-in-None-clause-served g c = λ part holds.
    let event = c.take-taken.result.event in
    let path = sym (upto_told event c.line.result.now) ∙ ap (λ ts. upto_quit (asked_by_all ts)) (ap (told event) c.line.ensures ∙ c.take-taken.ensures.told part holds) in
    transcribes_told _ _ _ _ _ _ _ _ _ _ _ _ _ _ (λ xs p. subst (λ all. Reaches c.serve_told-last.result all xs) path p) (λ xs p. p) c.serve_told-last.ensures.served
