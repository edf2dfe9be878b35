use Rattle.std.proofs.Common.{◌≡◌}
use Rattle.std.specs.Prelude.{None}
use Rattle.board_rule.specs.Passes.{view, IsOf}
use Rattle.call_times.proofs.searches.search_pinned.Given as goal

abbrev pub invariant-loop-key : goal.invariant-loop-key
invariant-loop-key g l = record {
  of : IsOf l.index.board l.pass;
  lane : l.pass.lane ≡ l.fn.pass.lane;
  bare : (view l.pass).pin ≡ None;
}
