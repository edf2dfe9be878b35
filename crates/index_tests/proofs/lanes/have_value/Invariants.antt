use Rattle.std.proofs.Common.{◌≡◌}
use Rattle.board_rule.specs.Passes.{view, IsOf}
use Rattle.worm_index.specs.Idle.{IsIdle}
use Rattle.index_tests.proofs.lanes.have_value.Given as goal

-- the pass stays the index's, and idle
abbrev pub invariant-loop-key : goal.invariant-loop-key
invariant-loop-key g l = record {
  of : IsOf l.index.board l.pass;
  lane : l.pass.lane ≡ l.fn.pass.lane;
  idle : IsIdle (view l.pass);
}
