use Rattle.std.proofs.Common.{◌≡◌, take}
use Rattle.map_model.proofs.plain.fill.Given as goal

-- the pairs so far are in the page
abbrev pub invariant-loop-key : goal.invariant-loop-key
invariant-loop-key l = l.page.pairs ≡ take l.key-index l.pairs
