use Rattle.std.proofs.Common.{◌+◌, ◌∷◌, take, sym, ap, ◌∙◌}
use Rattle.std.proofs.lemmas.List.{take_rest}
use Rattle.line_protocol.specs.Words.{words_of}
use Rattle.line_protocol.proofs.Splits.{words_one, words_more}
use Rattle.line_protocol.proofs.words.first_word.Goals as goal

pub returns-in-None : goal.returns-in-None
returns-in-None c = words_one c.args.bytes.now c.in-None.ensures

pub returns-in-Some : goal.returns-in-Some
returns-in-Some c =
    let bytes = c.args.bytes.now in
    let at = c.in-Some.at in
    let found = c.in-Some.ensures in
    words_more bytes at found.0.high found.1 found.0.before ∙ sym (ap (λ zs. take at bytes ∷ words_of zs) (take_rest bytes (at + 1)))
