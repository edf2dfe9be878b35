use Rattle.std.proofs.Common.{◌≡◌, ◌-◌, ◌∷◌, map, length, take, drop, string_bytes, true, eq-eqb, lit<, ap, ◌∙◌}
use Rattle.std.proofs.lemmas.Str.Pattern.{starts_char}
use Rattle.command_line.specs.Marks.{is_dashed, marks}
use Rattle.command_line.proofs.Cuts.{cut_at_equals, not_cut, first_rest}
use Rattle.command_line.proofs.mark.first_mark.Goals as goal

pub returns-in-Some-clause-first : goal.returns-in-Some-clause-first
returns-in-Some-clause-first c =
    let word = c.args.word.now in
    let starts = starts_char 45 word c.starts_with.result c.starts_with.ensures.cases (lit< tt) (lit< tt) in
    let dashed : is_dashed word ≡ true = eq-eqb _ _ (starts.0 c.if-not-starts_with.false) in
    cut_at_equals word (map string_bytes c.args.rest.now) c.split_once.result (c.in-Some.name, c.in-Some.value) c.split_once.ensures.cases c.in-Some.is dashed

pub returns-in-len1-up-clause-first : goal.returns-in-len1-up-clause-first
returns-in-len1-up-clause-first c =
    let word = c.args.word.now in
    let starts = starts_char 45 word c.starts_with.result c.starts_with.ensures.cases (lit< tt) (lit< tt) in
    let dashed : is_dashed word ≡ true = eq-eqb _ _ (starts.0 c.if-not-starts_with.false) in
    let rest = c.args.rest.now in
    ap (λ ws. marks (word ∷ ws)) (first_rest string_bytes rest c.value-item.result c.as_str-value.result.now c.in-len1-up.len_at_least c.value-item.is c.as_str-value.ensures.value)
    ∙ not_cut word c.as_str-value.result.now (map string_bytes (take (length rest - 1) (drop 1 rest))) c.split_once.result c.split_once.ensures.cases c.in_default.is dashed
