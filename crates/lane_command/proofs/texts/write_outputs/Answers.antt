use Rattle.std.proofs.Common.{◌≡◌, ◌++◌, ◌+◌, sym, subst, arith, drop}
use Rattle.std.specs.Prelude.{slice_index_or}
use Rattle.outside.proofs.Pieces.{wrote_more}
use Rattle.session.proofs.Gaining.{some_behind, some_more}
use Rattle.session.specs.Writes.{WroteSome}
use Rattle.lane_command.specs.Ends.{outputs_of}
use Rattle.lane_command.specs.Said.{blocks, lane_line}
use Rattle.lane_command.proofs.Answering.{text_next, front_next}
use Rattle.lane_command.proofs.texts.write_outputs.Goals as goal

pub returns-in-Err-clause-gained : goal.returns-in-Err-clause-gained
returns-in-Err-clause-gained g c = some_more _ _ c.args.faults.now (blocks 0 (outputs_of c.args.ends.now)) c.in-Err.ensures.gained

pub lanes-preserved : goal.lanes-preserved
lanes-preserved g c =
    let now = c.lanes.invariant in
    let front = now.wrote.0 in
    let lane = c.lanes.lane in
    let output = c.get.result.now in
    let is : output ≡ (slice_index_or c.args.ends.now lane c.index-ends-lane.result).output = c.get.ensures in record {
      within = omega (arith, c.lanes-test.true);
      wrote = (
        front ++ (lane_line lane ++ output),
        wrote_more _ _ _ front (lane_line lane ++ output) now.wrote.1 c.in-Ok-write_output.ensures.gained,
        front_next c.args.ends.now c.args.faults.now front lane c.index-ends-lane.result c.lanes-test.true output is now.wrote.2,
      );
      later = omega (arith, now.later, c.in-Ok-write_output.ensures.cause);
    }

pub returns-in-Err-write_output-clause-gained : goal.returns-in-Err-write_output-clause-gained
returns-in-Err-write_output-clause-gained g c =
    let now = c.lanes.invariant in
    let front = now.wrote.0 in
    let lane = c.lanes.lane in
    let output = c.get.result.now in
    let is : output ≡ (slice_index_or c.args.ends.now lane c.index-ends-lane.result).output = c.get.ensures in
    let rest = blocks (lane + 1) (outputs_of (drop (lane + 1) c.args.ends.now)) in
    subst (WroteSome (g.K.Sink.written c.args.sink.now) (g.K.Sink.written c.write_output.new.sink))
    (sym (text_next c.args.ends.now c.args.faults.now front lane c.index-ends-lane.result c.lanes-test.true output is now.wrote.2))
    (some_behind _ _ _ front ((lane_line lane ++ output) ++ rest) now.wrote.1 (some_more _ _ (lane_line lane ++ output) rest c.in-Err-write_output.ensures.gained))
