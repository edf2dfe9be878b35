use Rattle.std.proofs.Common.{◌≡◌, ℕ, [], vec_len}
use Rattle.lane_lines.specs.Deal.{script_at}
use Rattle.lane_lines.proofs.dealt.Dealt.new.Given as goal

-- as many empty scripts as were pushed
abbrev pub invariant-loop : goal.invariant-loop
invariant-loop l = record {
  many : vec_len l.scripts ≡ l.counter;
  none : (lane : ℕ) → script_at l.scripts.items lane ≡ [];
}
