use Rattle.std.proofs.Common.{◌≡◌, ◌∙◌, rules}
use Rattle.percent_encoding.specs.Percent.{percent_decode}
use Rattle.line_protocol.proofs.Escapes.{unescape_is}
use Rattle.line_protocol.proofs.escape.unescape_copy.Goals as goal

pub returns : goal.returns
returns c =
    let read : c.append_to.new.out.items ≡ percent_decode c.args.word.now = search rules in
    read ∙ unescape_is c.args.word.now
