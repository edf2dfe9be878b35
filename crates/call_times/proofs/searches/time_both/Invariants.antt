use Rattle.std.proofs.Common.{◌≡◌}
use Rattle.std.specs.Prelude.{None, IsSome}
use Rattle.board_rule.specs.Passes.{view, IsOf}
use Rattle.call_times.proofs.searches.time_both.Given as goal

abbrev pub invariant-loop : goal.invariant-loop
invariant-loop g l = record {
  of : IsOf l.index.board l.pass;
  lane : IsSome l.pass.lane;
  bare : (view l.pass).pin ≡ None;
}
