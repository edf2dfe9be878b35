use Rattle.std.proofs.Common.{not, ap, ◌∙◌}
use Rattle.line_protocol.proofs.Sought.{all_plain}
use Rattle.line_protocol.proofs.escape.are_plain.Goals as goal

pub returns : goal.returns
returns c = ap not c.has_escaped.ensures ∙ all_plain c.args.bytes.now
