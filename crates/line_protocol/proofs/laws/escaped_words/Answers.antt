use Rattle.line_protocol.proofs.Escapes.{word_bytes, escape_form}
use Rattle.line_protocol.proofs.laws.escaped_words.Goals as goal

pub returns-clause-bytes : goal.returns-clause-bytes
returns-clause-bytes c = word_bytes

pub returns-clause-form : goal.returns-clause-form
returns-clause-form c = escape_form
