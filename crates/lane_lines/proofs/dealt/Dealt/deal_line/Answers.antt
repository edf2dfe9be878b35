use Rattle.std.proofs.Common.{sym, ap, ◌∙◌, arith}
use Rattle.lane_lines.specs.Deal.{lane_of_word}
use Rattle.lane_lines.proofs.Dealing.{dealt_given, on_ok_more}
use Rattle.lane_lines.proofs.dealt.Dealt.deal_line.Goals as goal

pub give-requires : goal.give-requires
give-requires c = omega (arith, c.requires, c.in-Some.ensures.below)

pub returns-in-Some : goal.returns-in-Some
returns-in-Some c =
    λ before is. on_ok_more _ _ _
    (λ g. dealt_given c.args.lanes c.in-Some.lane before c.args.line.now _ c.args.self.now c.give.new.self is
    (ap (lane_of_word c.args.lanes) (sym c.first_word.ensures.word) ∙ (sym c.read_lane.ensures.lane ∙ c.in-Some.is)) c.first_word.ensures.rest g) c.give.ensures
