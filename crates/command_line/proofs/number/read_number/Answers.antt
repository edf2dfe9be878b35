use Rattle.std.proofs.Common.{◌≢◌, ◌≤◌, get_or, length, lit<, ◌∙◌, arith}
use Rattle.std.proofs.lemmas.Str.Pattern.{starts_char}
use Rattle.std.proofs.lemmas.Bool.{both_ways}
use Rattle.command_line.proofs.Numerals.{parsed}
use Rattle.command_line.proofs.number.read_number.Goals as goal

pub returns : goal.returns
returns c =
    let word = c.args.word.now in
    let starts = starts_char 43 word c.starts_with.result c.starts_with.ensures.cases (lit< tt) (lit< tt) in
    let plain : get_or word 0 0 ≢ 43 = λ e. both_ways _ c.if-starts_with.false (starts.1 e) in
    let few : length word ≤ 20 = omega arith in
    c.ok.ensures.value ∙ parsed word c.parse.result c.parse.ensures.value.0 few plain
