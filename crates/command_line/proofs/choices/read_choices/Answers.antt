use Rattle.std.proofs.Common.{[], map, string_bytes, refl, sym, ap, ◌∙◌}
use Rattle.command_line.specs.Marks.{marks}
use Rattle.command_line.specs.Reading.{mark_of, list_of, number_at, IsNoCommand}
use Rattle.command_line.proofs.Cuts.{first_rest, marks_none}
use Rattle.command_line.proofs.Outcomes.{outcome, outcome_start, none_at, outcome_end, takes_outcome, refused_outcome}
use Rattle.command_line.proofs.choices.read_choices.Goals as goal

pub returns-in_err-choices : goal.returns-in_err-choices
returns-in_err-choices c =
    let before = c.loop-rest.choices in
    let m = mark_of c.first_mark.result.0 in
    let no : IsNoCommand (marks (map string_bytes c.args.words.now)) =
    λ word.
    sym (c.loop-rest.invariant word)
    ∙ ap (λ ms. outcome (number_at before) (list_of before.words) ms word)
    (ap marks (first_rest string_bytes c.loop-rest.rest.now c.word-item.result c.as_str.result.now c.in-len1-up.len_at_least c.word-item.is c.as_str.ensures.value)
    ∙ c.first_mark.ensures.first)
    ∙ refused_outcome before m c.in_err-choices.ensures (marks (map string_bytes c.first_mark.result.1.now)) word in
    rw c.from_residual.ensures no

pub loop-rest-init : goal.loop-rest-init
loop-rest-init c = λ word. outcome_start _ [] none_at refl (marks (map string_bytes c.args.words.now)) word

pub loop-rest-preserved : goal.loop-rest-preserved
loop-rest-preserved c =
    λ word.
    let before = c.loop-rest.choices in
    let m = mark_of c.first_mark.result.0 in
    let now = c.in_ok-choices.choices in
    takes_outcome before m now c.in_ok-choices.ensures (marks (map string_bytes c.first_mark.result.1.now)) word
    ∙ ap (λ ms. outcome (number_at before) (list_of before.words) ms word)
    (sym c.first_mark.ensures.first
    ∙ ap marks (sym (first_rest string_bytes c.loop-rest.rest.now c.word-item.result c.as_str.result.now c.in-len1-up.len_at_least c.word-item.is c.as_str.ensures.value)))
    ∙ c.loop-rest.invariant word

pub returns : goal.returns
returns c =
    λ word.
    let choices = c.loop-rest.choices in
    sym (c.loop-rest.invariant word)
    ∙ ap (λ ms. outcome (number_at choices) (list_of choices.words) ms word) (marks_none string_bytes c.loop-rest.rest.now c.in_default.len_below)
    ∙ outcome_end (number_at choices) (list_of choices.words) word
