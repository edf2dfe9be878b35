use Rattle.std.proofs.Common.{◌∙◌, subst}
use Rattle.outside.specs.Writing.{Wrote}
use Rattle.session.proofs.Gaining.{gained_behind, some_more}
use Rattle.session.specs.Writes.{WroteSome}
use Rattle.lane_command.specs.Said.{lane_line}
use Rattle.lane_command.proofs.texts.write_output.Goals as goal

pub returns-in-Ok-write_all-clause-gained : goal.returns-in-Ok-write_all-clause-gained
returns-in-Ok-write_all-clause-gained g c =
    let line = subst (Wrote (g.K.Sink.written c.args.sink.now) (g.K.Sink.written c.write_all.new.sink)) (c.deref.ensures.value ∙ c.in-Ok.ensures) c.in-Ok-write_all.ensures.gained in
    gained_behind c.write_all-in-Ok-write_all.result _ _ _ (lane_line c.args.lane) c.args.output.now line c.write_all-in-Ok-write_all.ensures.gained

pub returns-in-Err-write_all-clause-gained : goal.returns-in-Err-write_all-clause-gained
returns-in-Err-write_all-clause-gained g c =
    let line = subst (WroteSome (g.K.Sink.written c.args.sink.now) (g.K.Sink.written c.write_all.new.sink)) (c.deref.ensures.value ∙ c.in-Ok.ensures) c.in-Err-write_all.ensures.gained in
    some_more _ _ (lane_line c.args.lane) c.args.output.now line
