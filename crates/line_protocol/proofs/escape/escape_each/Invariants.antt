use Rattle.std.proofs.Common.{◌≡◌, ◌++◌, take, length}
use Rattle.percent_encoding.specs.Iter.{encoded_text}
use Rattle.line_protocol.specs.Escape.{escape}
use Rattle.line_protocol.proofs.escape.escape_each.Given as goal

abbrev pub invariant-loop-piece : goal.invariant-loop-piece
invariant-loop-piece l = record {
  text : l.out.items ++ encoded_text l.piece-iterator ≡ l.fn.out.items ++ escape l.fn.bytes;
  front : take (length l.fn.out.items) l.out.items ≡ l.fn.out.items;
}
