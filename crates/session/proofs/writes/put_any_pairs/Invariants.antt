use Rattle.std.proofs.Common.{◌≡◌, take}
use Rattle.session.specs.Replies.{pair_lines}
use Rattle.session.proofs.writes.put_any_pairs.Given as goal

abbrev pub invariant-loop-i : goal.invariant-loop-i
invariant-loop-i l = l.out.items ≡ pair_lines (take l.i l.page.pairs)
