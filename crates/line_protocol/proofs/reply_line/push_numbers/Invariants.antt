use Rattle.std.proofs.Common.{◌≡◌, ◌++◌, take}
use Rattle.std.specs.List.{flat_map}
use Rattle.line_protocol.specs.ReplyLine.{number_word}
use Rattle.line_protocol.proofs.reply_line.push_numbers.Given as goal

abbrev pub invariant-loop-number : goal.invariant-loop-number
invariant-loop-number l = l.out.items ≡ l.fn.out.items ++ (l.front ++ flat_map number_word (take l.number-index l.numbers))
