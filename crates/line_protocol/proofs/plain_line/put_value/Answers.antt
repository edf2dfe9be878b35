use Rattle.std.proofs.Common.{◌≡◌, ◌++◌, ◌∷◌, [], codes, drop, set, length, sym, ◌∙◌, arith}
use Rattle.std.proofs.lemmas.List.{drop_all}
use Rattle.line_protocol.proofs.PlainLines.{value_plain, set_only}
use Rattle.line_protocol.proofs.plain_line.put_value.Goals as goal

pub returns : goal.returns
returns c =
    let first = c.split_at_mut-front.ensures in
    let second = c.split_at_mut-word.ensures in
    let rest = drop_all 6 c.split_at_mut-front.result.0.now (omega (arith, first.front_len)) in
    let one : length c.split_at_mut-word.result.1.now ≡ 1 = omega (arith, c.requires.room, first.back_len, second.back_len) in
    let end = set_only c.split_at_mut-word.result.1.now 10 one in
    (λ i. codes "VALUE " ++ (rest i ++ (c.copy_few.ensures i ++ end i)))
    ∙ sym (value_plain c.args.value.now c.requires.value)
