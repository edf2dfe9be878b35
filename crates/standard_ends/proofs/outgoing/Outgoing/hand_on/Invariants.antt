use Rattle.std.proofs.Common.{◌≡◌, ◌-◌, ◌≤◌, [], false, vec_len}
use Rattle.std.specs.Io.KnownBytes.{Keeps}
use Rattle.standard_ends.specs.Outgoing.{is_broken, passed, waiting}
use Rattle.standard_ends.proofs.outgoing.Outgoing.hand_on.Given as goal

-- what the writer took waits no longer, and nothing else moved
abbrev pub invariant-pieces : goal.invariant-pieces
invariant-pieces g l = record {
  kept : Keeps (passed g.W.Write.contents l.initial.self) (passed g.W.Write.contents l.self);
  whole : is_broken l.self ≡ false;
  idle : waiting l.initial.self ≡ [] → vec_len l.self.bytes ≤ l.self.handed;
}

abbrev pub decreases-pieces : goal.decreases-pieces
decreases-pieces g l = vec_len l.self.bytes - l.self.handed
