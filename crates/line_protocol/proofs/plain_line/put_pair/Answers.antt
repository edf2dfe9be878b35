use Rattle.std.proofs.Common.{◌≡◌, ◌++◌, ◌∷◌, [], codes, drop, set, length, sym, ◌∙◌, arith}
use Rattle.std.proofs.lemmas.List.{drop_all}
use Rattle.line_protocol.proofs.PlainLines.{pair_plain, set_only}
use Rattle.line_protocol.proofs.plain_line.put_pair.Goals as goal

pub returns : goal.returns
returns c =
    let first = c.split_at_mut-front.ensures in
    let second = c.split_at_mut-word.ensures in
    let third = c.split_at_mut-blank.ensures in
    let fourth = c.split_at_mut-word-2.ensures in
    let rest = drop_all 5 c.split_at_mut-front.result.0.now (omega (arith, first.front_len)) in
    let blank = set_only c.split_at_mut-blank.result.0.now 32 third.front_len in
    let one : length c.split_at_mut-word-2.result.1.now ≡ 1 = omega (arith, c.requires.room, first.back_len, second.back_len, third.back_len, fourth.back_len) in
    let end = set_only c.split_at_mut-word-2.result.1.now 10 one in
    (λ i. codes "PAIR " ++ (rest i ++ (c.copy_few.ensures i ++ (blank i ++ (c.copy_few-2.ensures i ++ end i)))))
    ∙ sym (pair_plain c.args.key.now c.args.value.now c.requires.key c.requires.value)
