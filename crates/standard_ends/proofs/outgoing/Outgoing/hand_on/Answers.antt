use Rattle.std.proofs.Common.{arith, rules, ap, length, le_of_eq, length-drop}
use Rattle.std.proofs.KnownBytes.{Keeps-trans}
use Rattle.standard_ends.proofs.Handing.{handed_more}
use Rattle.standard_ends.proofs.outgoing.Outgoing.hand_on.Goals as goal

pub pieces-preserved : goal.pieces-preserved
pieces-preserved g c = record {
  kept = Keeps-trans _ _ _ c.pieces.invariant.kept
      (handed_more _ _ _ _ c.pieces.self.handed c.in-Some.n _ c.deref.ensures.value c.in-Some.ensures.taken (le_of_eq (length-drop c.pieces.self.handed c.deref.result.now)));
  whole = c.pieces.invariant.whole;
  idle = λ none. let left = c.pieces.invariant.idle none in absurd (omega (arith, left, c.len.ensures, c.pieces-test));
}

pub pieces-init : goal.pieces-init
pieces-init g c = record {
  kept = search rules;
  whole = search rules;
  idle = λ none. let size = ap length none in omega (arith, size, length-drop c.args.self.now.handed c.args.self.now.bytes.items);
}
