use Rattle.std.proofs.Common.{◌≡◌, ◌+◌, ◌++◌, [], ◌∷◌, ℕ, take, sym, ap, ◌∙◌, subst, arith, Vec}
use Rattle.std.specs.declared.alloc.Global.{Global}
use Rattle.std.proofs.lemmas.List.{take_all, take_more, flat_map_more}
use Rattle.line_reader.specs.Cut.{open_part}
use Rattle.line_reader.specs.Told.{Holds, told, told_lines}
use Rattle.line_reader.specs.Kept.{joined}
use Rattle.line_reader.proofs.Cutting.{told_all, told_lines-append, open_part-append}
use Rattle.line_reader.proofs.pieces.read_all.Goals as goal

pub loop-piece-preserved : goal.loop-piece-preserved
loop-piece-preserved c =
    let i = c.loop-piece.piece-index in
    let pieces = c.args.pieces.now in
    let piece = c.piece-item.result in
    let before = joined (take i pieces) in
    let more : joined (take (i + 1) pieces) ≡ before ++ piece.items =
    ap joined (take_more pieces i piece (omega arith) ∙ ap (λ (p : Vec ℕ Global). take i pieces ++ p ∷ []) (sym c.piece-item.is))
    ∙ sym (flat_map_more (λ (p : Vec ℕ Global). p.items) [] (take i pieces) piece) in
    let invariant = c.loop-piece.invariant in
    record {
      told = c.in_ok-read_piece.ensures.told (open_part [] before) invariant.held
          ∙ ap (λ k. k ++ told_lines (open_part [] before) c.deref.result.now) invariant.told
          ∙ ap (λ p. told_lines [] before ++ told_lines (open_part [] before) p) c.deref.ensures.value
          ∙ sym (told_lines-append [] before piece.items)
          ∙ sym (ap (told_lines []) more);
      held = subst (Holds c.read_piece.new.lines)
          (ap (open_part (open_part [] before)) c.deref.ensures.value ∙ sym (open_part-append [] before piece.items) ∙ sym (ap (open_part []) more))
          (c.in_ok-read_piece.ensures.held (open_part [] before) invariant.held);
    }

pub returns : goal.returns
returns c =
    let pieces = c.args.pieces.now in
    let bytes = joined pieces in
    let all : joined (take c.loop-piece.piece-index pieces) ≡ bytes = ap joined (take_all c.loop-piece.piece-index pieces (omega arith)) in
    let holds = subst (λ b. Holds c.loop-piece.lines (open_part [] b)) all c.loop-piece.invariant.held in
    c.in_ok-keep_line.ensures
    ∙ ap (λ k. k ++ told c.finish-event.result c.line.result.now) (c.loop-piece.invariant.told ∙ ap (told_lines []) all)
    ∙ ap (λ l. told_lines [] bytes ++ told c.finish-event.result l) c.line.ensures
    ∙ ap (λ t. told_lines [] bytes ++ t) (c.finish-event.ensures.told (open_part [] bytes) holds)
    ∙ sym (told_all bytes)
