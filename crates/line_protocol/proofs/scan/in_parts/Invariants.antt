use Rattle.std.proofs.Common.{◌≡◌, ◌-◌, ◌≤◌, length, take, false}
use Rattle.std.specs.List.{list_any}
use Rattle.line_protocol.specs.Escape.{is_sought}
use Rattle.line_protocol.proofs.scan.in_parts.Given as goal

abbrev pub invariant-parts : goal.invariant-parts
invariant-parts g l = record {
  room : l.at ≤ length l.fn.bytes;
  none : list_any (is_sought l.fn.sought) (take l.at l.fn.bytes) ≡ false;
}

abbrev pub decreases-parts : goal.decreases-parts
decreases-parts g l = l.last - l.at
