use Rattle.std.proofs.Common.{◌≡◌, ◌≤◌, ◌+◌, ◌*◌, length, take}
use Rattle.map_model.specs.Pages.{joined}
use Rattle.session.specs.Replies.{pair_lines}
use Rattle.session.proofs.writes.put_plain_pairs.Given as goal

abbrev pub invariant-loop-i : goal.invariant-loop-i
invariant-loop-i l = record {
  reached : l.at ≡ length (joined (take l.i l.page.pairs)) + 7 * l.i;
  room : length (joined (take l.count l.page.pairs)) + 7 * l.count ≤ length l.out.items;
  lines : take l.at l.out.items ≡ pair_lines (take l.i l.page.pairs);
}
