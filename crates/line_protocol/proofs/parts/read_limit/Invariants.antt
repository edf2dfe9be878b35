use Rattle.std.proofs.Common.{◌≡◌, ◌<◌, ◌^◌, drop}
use Rattle.line_protocol.proofs.Limits.{limit_from}
use Rattle.line_protocol.proofs.parts.read_limit.Given as goal

abbrev pub invariant-loop-digit : goal.invariant-loop-digit
invariant-loop-digit l = record {
  below : l.limit < 10 ^ l.digit-index;
  digits : limit_from l.limit (drop l.digit-index l.word) ≡ limit_from 0 l.word;
}
