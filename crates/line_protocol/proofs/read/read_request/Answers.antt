use Rattle.std.proofs.Common.{◌∷◌, length, sym, ap, ◌∙◌, codes, refl, arith, rules}
use Rattle.std.proofs.lemmas.Bool.{eqb-false}
use Rattle.line_protocol.specs.Words.{words_of}
use Rattle.line_protocol.proofs.Serving.{answers_line, never_nothing}
use Rattle.line_protocol.proofs.read.read_request.Goals as goal

pub returns-in-Some-clause-answers : goal.returns-in-Some-clause-answers
returns-in-Some-clause-answers c =
    answers_line c.args.line.now (codes "GET" ∷ words_of c.in-Some.rest.now) c.read_get.result (search rules) c.requires (ap words_of c.in-Some.ensures) c.read_get.ensures.answers

pub returns-in-Some-clause-none : goal.returns-in-Some-clause-none
returns-in-Some-clause-none c =
    never_nothing c.args.line.now (codes "GET" ∷ words_of c.in-Some.rest.now) c.read_get.result (search rules) c.read_get.ensures.answers

pub returns-in-Some-behind_put-clause-answers : goal.returns-in-Some-behind_put-clause-answers
returns-in-Some-behind_put-clause-answers c =
    answers_line c.args.line.now (codes "PUT" ∷ words_of c.in-Some-behind_put.rest.now) c.read_put.result (search rules) c.requires (ap words_of c.in-Some-behind_put.ensures) c.read_put.ensures.answers

pub returns-in-Some-behind_put-clause-none : goal.returns-in-Some-behind_put-clause-none
returns-in-Some-behind_put-clause-none c =
    never_nothing c.args.line.now (codes "PUT" ∷ words_of c.in-Some-behind_put.rest.now) c.read_put.result (search rules) c.read_put.ensures.answers

pub returns-in-Some-behind_del-clause-answers : goal.returns-in-Some-behind_del-clause-answers
returns-in-Some-behind_del-clause-answers c =
    answers_line c.args.line.now (codes "DEL" ∷ words_of c.in-Some-behind_del.rest.now) c.read_del.result (search rules) c.requires (ap words_of c.in-Some-behind_del.ensures) c.read_del.ensures.answers

pub returns-in-Some-behind_del-clause-none : goal.returns-in-Some-behind_del-clause-none
returns-in-Some-behind_del-clause-none c =
    never_nothing c.args.line.now (codes "DEL" ∷ words_of c.in-Some-behind_del.rest.now) c.read_del.result (search rules) c.read_del.ensures.answers

pub returns-in_default-behind_del-clause-answers : goal.returns-in_default-behind_del-clause-answers
returns-in_default-behind_del-clause-answers c =
    let line = c.args.line.now in
    let other = eqb-false (length line) 0 (sym c.is_empty.ensures ∙ c.if-is_empty.false) in
    answers_line line (words_of line) c.read_words.result (omega (arith, other)) c.requires refl c.read_words.ensures.answers

pub returns-in_default-behind_del-clause-none : goal.returns-in_default-behind_del-clause-none
returns-in_default-behind_del-clause-none c =
    let line = c.args.line.now in
    let other = eqb-false (length line) 0 (sym c.is_empty.ensures ∙ c.if-is_empty.false) in
    never_nothing line (words_of line) c.read_words.result (omega (arith, other)) c.read_words.ensures.answers
