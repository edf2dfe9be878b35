use Rattle.std.proofs.Common.{◌≡◌}
use Rattle.board_rule.specs.Passes.{view, IsOf}
use Rattle.worm_index.specs.Idle.{IsIdle}
use Rattle.call_times.proofs.searches.put_shared.Given as goal

abbrev pub invariant-loop-key : goal.invariant-loop-key
invariant-loop-key g l = record {
  of : IsOf l.index.board l.pass;
  lane : l.pass.lane ≡ l.fn.pass.lane;
  idle : IsIdle (view l.pass);
}
