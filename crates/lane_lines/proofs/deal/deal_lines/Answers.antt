use Rattle.std.proofs.Common.{◌≡◌, ◌-◌, ◌++◌, [], length, take, drop, sym, ap, ◌∙◌, subst, arith}
use Rattle.std.proofs.lemmas.List.{take_rest, take_all, length-drop}
use Rattle.line_reader.specs.Cut.{open_part}
use Rattle.line_reader.specs.Told.{Holds, told, told_lines}
use Rattle.line_reader.proofs.Cutting.{told_more, open_more, told_all}
use Rattle.lane_lines.specs.Deal.{IsDealt}
use Rattle.lane_lines.proofs.deal.deal_lines.Goals as goal

pub lines-preserved : goal.lines-preserved
lines-preserved c =
    let now = c.lines.invariant in
    let at = c.lines.at in
    let input = c.args.input.now in
    let taken = c.take-taken.result in
    let slice = take (length input - at) (drop at input) in
    let rest = take_rest input at in
    let part = open_part [] (take at input) in
    let line = c.take-taken.ensures.told part now.held in
    record {
      within = omega (arith, c.take-taken.ensures.used, ap length rest, length-drop at input);
      dealt = subst (λ ts. IsDealt c.args.lanes ts c.deal_told.new.self)
          (ap (λ l. told_lines [] (take at input) ++ told taken.event l) c.line.ensures ∙ (ap (λ t. told_lines [] (take at input) ++ t) line ∙ sym (told_more [] input slice at taken.used rest)))
          (c.in_ok-deal_told.ensures (told_lines [] (take at input)) now.dealt);
      held = subst (Holds c.take-taken.new.self) (sym (open_more [] input slice at taken.used rest)) (c.take-taken.ensures.held part now.held);
    }

pub returns : goal.returns
returns c =
    let input = c.args.input.now in
    let all : take c.lines.at input ≡ input = take_all c.lines.at input (omega (arith, c.lines.invariant.within, c.lines-test.false)) in
    let held = subst (λ bytes. Holds c.lines.reader (open_part [] bytes)) all c.lines.invariant.held in
    let dealt = subst (λ bytes. IsDealt c.args.lanes (told_lines [] bytes) c.lines.dealt) all c.lines.invariant.dealt in
    subst (λ ts. IsDealt c.args.lanes ts c.deal_told-2.new.self)
    (ap (λ l. told_lines [] input ++ told c.finish-event.result l) c.line-2.ensures ∙ (ap (λ t. told_lines [] input ++ t) (c.finish-event.ensures.told (open_part [] input) held) ∙ sym (told_all input)))
    (c.in_ok-deal_told-2.ensures (told_lines [] input) dealt)
