use Rattle.std.proofs.Common.{sym, ◌∙◌, subst}
use Rattle.lane_lines.specs.Deal.{IsDealt}
use Rattle.lane_command.specs.Ends.{SaysWhole}
use Rattle.lane_command.specs.Said.{SaidBy, told_of}
use Rattle.lane_command.proofs.Answering.{said_as, lanes_said}
use Rattle.lane_command.proofs.run.answer_by.Goals as goal

pub returns-in-Ok-run_lanes-clause-said : goal.returns-in-Ok-run_lanes-clause-said
returns-in-Ok-run_lanes-clause-said g c =
    let dealt = subst (λ bytes. IsDealt c.args.lanes (told_of bytes) c.in-Ok.dealt) c.deref.ensures.value c.in-Ok.ensures in
    let laws = g.met.T.Lanes g.world.𝓛 g.world.𝓜 g.world.𝓡 ((λ s x. x), (λ x. x), (λ x. x), λ x. x) in
    let calls = g.met.T.Ordered g.world.𝓛 g.world.𝓜 g.world.𝓡 ((λ s x. x), (λ x. x), (λ x. x), λ x. x) in
    let legal = calls.stands_legal _ _ (laws.stands_seen c.run_lanes.new.first) in
    let places = c.in-Ok-run_lanes.ensures.places (c.requires.all ∙ sym dealt.many) in
    let faults = c.deref-in-Ok-run_lanes.result.now in
    let said = subst (λ done. SaidBy c.say.result (g.K.Sink.written c.args.sink.now) (g.K.Sink.written c.say.new.sink) (SaysWhole faults done)) c.deref-in-Ok-run_lanes-2.ensures.value c.say.ensures.said in
    said_as c.say.result _ _ _ _
    (lanes_said (g.P.Patience.limit c.args.patience) c.args.lanes (told_of c.args.input.items) _ _ _ _ _ _ c.in-Ok.dealt faults c.in-Ok-run_lanes.ends.items dealt c.deref-in-Ok-run_lanes.ensures.value legal places) said
