use Rattle.std.proofs.Common.{◌-◌, ◌++◌, length, take, drop, sym, ap, ◌∙◌, subst, append_assoc, arith}
use Rattle.std.proofs.lemmas.List.{take_rest, length-drop}
use Rattle.line_reader.specs.Cut.{open_part}
use Rattle.line_reader.specs.Told.{Holds, told, told_lines}
use Rattle.line_reader.specs.Kept.{kept_lines}
use Rattle.line_reader.proofs.Cutting.{told_more, open_more}
use Rattle.line_reader.proofs.pieces.read_piece.Goals as goal

pub loop-at-preserved : goal.loop-at-preserved
loop-at-preserved c =
    let at = c.loop-at.at in
    let piece = c.args.piece.now in
    let taken = c.take-taken.result in
    let rest = take_rest piece at in
    record {
      within = omega (arith, c.take-taken.ensures.used, ap length rest, length-drop at piece);
      told = λ part holds.
          let now = c.take-taken.ensures.told (open_part part (take at piece)) (c.loop-at.invariant.held part holds) in
          c.in_ok-keep_line.ensures
          ∙ ap (λ l. kept_lines c.loop-at.out.items ++ told taken.event l) c.line.ensures
          ∙ ap (λ t. kept_lines c.loop-at.out.items ++ t) now
          ∙ ap (λ k. k ++ told_lines (open_part part (take at piece)) (take taken.used (take (length piece - at) (drop at piece)))) (c.loop-at.invariant.told part holds)
          ∙ append_assoc (kept_lines c.args.out.now.items) (told_lines part (take at piece)) (told_lines (open_part part (take at piece)) (take taken.used (take (length piece - at) (drop at piece))))
          ∙ ap (λ t. kept_lines c.args.out.now.items ++ t) (sym (told_more part piece (take (length piece - at) (drop at piece)) at taken.used rest));
      held = λ part holds.
          subst (Holds c.take-taken.new.self) (sym (open_more part piece (take (length piece - at) (drop at piece)) at taken.used rest)) (c.take-taken.ensures.held (open_part part (take at piece)) (c.loop-at.invariant.held part holds));
    }
