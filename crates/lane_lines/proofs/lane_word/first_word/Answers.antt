use Rattle.std.proofs.Common.{◌+◌, take, drop, length, sym, ap, ◌∙◌, arith}
use Rattle.std.proofs.lemmas.List.{take_all, drop_all, take_rest}
use Rattle.lane_lines.proofs.Spaces.{place_none, place_at}
use Rattle.lane_lines.proofs.lane_word.first_word.Goals as goal

pub returns-in-None-clause-word : goal.returns-in-None-clause-word
returns-in-None-clause-word c =
    let line = c.args.line.now in
    let place = place_none line c.in-None.ensures in
    sym (ap (λ n. take n line) place ∙ take_all (length line) line (omega arith))

pub returns-in-None-clause-rest : goal.returns-in-None-clause-rest
returns-in-None-clause-rest c =
    let line = c.args.line.now in
    let place = place_none line c.in-None.ensures in
    sym (ap (λ n. drop (n + 1) line) place ∙ drop_all (length line + 1) line (omega arith))

pub returns-in-Some-clause-word : goal.returns-in-Some-clause-word
returns-in-Some-clause-word c =
    let line = c.args.line.now in
    let found = c.in-Some.ensures in
    ap (λ n. take n line) (sym (place_at line c.in-Some.at found.0.high found.1 found.0.before))

pub returns-in-Some-clause-rest : goal.returns-in-Some-clause-rest
returns-in-Some-clause-rest c =
    let line = c.args.line.now in
    let found = c.in-Some.ensures in
    take_rest line (c.in-Some.at + 1) ∙ ap (λ n. drop (n + 1) line) (sym (place_at line c.in-Some.at found.0.high found.1 found.0.before))
