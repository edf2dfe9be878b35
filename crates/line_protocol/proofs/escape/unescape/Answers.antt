use Rattle.std.proofs.Common.{◌∙◌, sym}
use Rattle.line_protocol.proofs.Escapes.{unescape_none}
use Rattle.line_protocol.proofs.escape.unescape.Goals as goal

pub returns-else-has_byte : goal.returns-else-has_byte
returns-else-has_byte c = sym (unescape_none c.args.word.now (sym c.has_byte.ensures ∙ c.if-has_byte.false))
