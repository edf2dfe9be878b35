use Rattle.std.proofs.Common.{sym, ap, ◌∙◌, option_copied}
use Rattle.line_protocol.specs.Words.{one, words_after}
use Rattle.line_protocol.proofs.Splits.{one_many, one_whole}
use Rattle.line_protocol.proofs.words.one_word.Goals as goal

pub returns-then-has_byte : goal.returns-then-has_byte
returns-then-has_byte c =
    sym (ap (λ r. one (words_after (option_copied r))) c.in-Some.is ∙ one_many c.in-Some.bytes.now (sym c.has_byte.ensures ∙ c.if-has_byte.true))

pub returns-else-has_byte : goal.returns-else-has_byte
returns-else-has_byte c =
    sym (ap (λ r. one (words_after (option_copied r))) c.in-Some.is ∙ one_whole c.in-Some.bytes.now (sym c.has_byte.ensures ∙ c.if-has_byte.false))
