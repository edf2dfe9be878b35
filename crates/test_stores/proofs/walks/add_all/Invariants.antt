use Rattle.std.proofs.Common.{◌≡◌, ◌++◌, take}
use Rattle.test_stores.proofs.walks.add_all.Given as goal

-- the pairs so far were added
abbrev pub invariant-loop-i : goal.invariant-loop-i
invariant-loop-i l = l.all.pairs ≡ l.fn.all.pairs ++ take l.i l.page.pairs
