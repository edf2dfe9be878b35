use Rattle.std.proofs.Common.{◌≡◌, ◌<◌, ◌^◌, drop}
use Rattle.lane_lines.proofs.Numbers.{lane_from}
use Rattle.lane_lines.proofs.lane_word.read_lane.Given as goal

abbrev pub invariant-loop-digit : goal.invariant-loop-digit
invariant-loop-digit l = record {
  below : l.lane < 10 ^ l.digit-index;
  digits : lane_from l.lanes l.lane (drop l.digit-index l.word) ≡ lane_from l.lanes 0 l.word;
}
