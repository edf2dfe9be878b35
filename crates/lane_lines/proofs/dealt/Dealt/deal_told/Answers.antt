use Rattle.std.proofs.Common.{◌≡◌, Some, refl, ap, ◌∙◌}
use Rattle.line_reader.specs.declared.lines.Event.TheVariants.{TooLong}
use Rattle.lane_lines.proofs.Dealing.{told_long}
use Rattle.lane_lines.proofs.dealt.Dealt.deal_told.Goals as goal

pub returns-in-TooLong : goal.returns-in-TooLong
returns-in-TooLong c =
    let event : c.args.event ≡ Some TooLong = c.in-Some.is ∙ ap Some c.in-TooLong.is in
    λ before is. told_long c.reply_text.result c.args.lanes before c.args.event c.args.line.now c.args.self.now (record { scripts = c.args.self.now.scripts; faults = c.reply_text.new.out }) event is refl c.reply_text.ensures
