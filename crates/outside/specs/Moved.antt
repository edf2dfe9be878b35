-- The bytes that a call moved.
use Rattle.std.specs.Prelude.{ℕ, Result, Ok, Err, List, [], take, Bool, false, ◌==◌}
use Rattle.outside.specs.declared.stop.Stop.{Stop}

-- the first n at `Ok`, and none at a stop
abbrev pub moved : Result ℕ Stop → List ℕ → List ℕ
moved (Ok n) bytes = take n bytes
moved (Err stop) bytes = []

-- the answer is 0
abbrev pub is_zero : Result ℕ Stop → Bool
is_zero (Ok n) = n == 0
is_zero (Err stop) = false
