use Rattle.std.proofs.Common.{◌-◌, ◌≤◌, [], ◌∙◌, sym, subst, take, drop, length, arith, length-drop, take-append-drop}
use Rattle.std.proofs.Math.Seq.{take-add}
use Rattle.std.proofs.lemmas.List.{take-take, append-nil}
use Rattle.outside.specs.Writing.{Wrote}
use Rattle.outside.proofs.Pieces.{wrote_more}
use Rattle.session.proofs.writes.write_all.Goals as goal

-- what was written before
pub returns-in-Err-clause-gained : goal.returns-in-Err-clause-gained
returns-in-Err-clause-gained g c =
    let at = c.pieces.at in
    let bytes = c.args.bytes.now in
    let wrote = subst (Wrote _ _) (append-nil (take at bytes)) (wrote_more _ _ _ (take at bytes) [] c.pieces.invariant.wrote c.in-Err.ensures.bytes) in
    (take at bytes, (drop at bytes, take-append-drop at bytes), wrote)

pub pieces-preserved : goal.pieces-preserved
pieces-preserved g c =
    let at = c.pieces.at in
    let n = c.in-Ok.n in
    let bytes = c.args.bytes.now in
    let bound : n ≤ length bytes - at = omega (arith, c.in-Ok.ensures.bound, length-drop at bytes) in
    let more = subst (Wrote _ _) (take-take n (length bytes - at) (drop at bytes) bound) c.in-Ok.ensures.bytes in record {
      within = omega arith;
      wrote = subst (Wrote _ _) (sym (take-add at n bytes)) (wrote_more _ _ _ (take at bytes) (take n (drop at bytes)) c.pieces.invariant.wrote more);
      later = omega (arith, c.pieces.invariant.later, c.in-Ok.ensures.cause);
      connection = c.in-Ok.ensures.connection ∙ c.pieces.invariant.connection;
    }
