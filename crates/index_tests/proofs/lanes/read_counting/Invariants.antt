use Rattle.std.proofs.Common.{◌≡◌}
use Rattle.board_rule.specs.Passes.{view, IsOf}
use Rattle.worm_index.specs.Idle.{IsIdle}
use Rattle.index_tests.proofs.lanes.read_counting.Given as goal

-- the pass stays the index's, and idle
abbrev pub invariant-loop : goal.invariant-loop
invariant-loop g l = record {
  of : IsOf l.index.board l.pass;
  lane : l.pass.lane ≡ l.fn.pass.lane;
  idle : IsIdle (view l.pass);
}
