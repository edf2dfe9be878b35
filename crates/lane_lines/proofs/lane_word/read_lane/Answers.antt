use Rattle.std.proofs.Common.{◌≡◌, ◌<◌, ◌≤◌, ◌^◌, false, true, ltb, get_or, length, Some, None, sym, ◌∙◌, arith, lit<, rules}
use Rattle.std.specs.Char.{is_ascii_digit}
use Rattle.std.proofs.lemmas.Bool.{cond-true, cond-false, lt-ltb, le-ltb}
use Rattle.std.proofs.Math.Nat.{pow-le-pow_right}
use Rattle.lane_lines.specs.declared.lane_word.TheConstants.{LANE_DIGITS}
use Rattle.lane_lines.proofs.Numbers.{lane_is, lane_stops, lane_ends}
use Rattle.lane_lines.proofs.lane_word.read_lane.Goals as goal

pub overflow_mul-lane : goal.overflow_mul-lane
overflow_mul-lane c =
    let i = c.loop-digit.digit-index in
    let few : i ≤ 2 = omega arith in
    let bound : 10 ^ i ≤ 10 ^ 2 = pow-le-pow_right {n = 10} (lit< tt) {i = i} {j = 2} few in
    omega (arith, c.loop-digit.invariant.below)

pub overflow_add-lane : goal.overflow_add-lane
overflow_add-lane c =
    let i = c.loop-digit.digit-index in
    let few : i ≤ 2 = omega arith in
    let bound : 10 ^ i ≤ 10 ^ 2 = pow-le-pow_right {n = 10} (lit< tt) {i = i} {j = 2} few in
    omega (arith, c.loop-digit.invariant.below)

pub returns-then-not-is_ascii_digit-clause-lane : goal.returns-then-not-is_ascii_digit-clause-lane
returns-then-not-is_ascii_digit-clause-lane c =
    let word = c.args.word.now in
    let i = c.loop-digit.digit-index in
    let within : i < length word = omega arith in
    let few : length word ≤ LANE_DIGITS = omega arith in
    let other : is_ascii_digit (get_or word i 0) ≡ false = sym c.is_ascii_digit.ensures.value ∙ c.if-not-is_ascii_digit.true in
    sym (lane_stops _ c.loop-digit.lane i word within other) ∙ c.loop-digit.invariant.digits ∙ lane_is _ word (omega arith) few

pub returns-then-lane-lanes-clause-lane : goal.returns-then-lane-lanes-clause-lane
returns-then-lane-lanes-clause-lane c =
    let word = c.args.word.now in
    let n = c.loop-digit.lane in
    let some : 0 < length word = search rules in
    let few : length word ≤ LANE_DIGITS = omega arith in
    let past : length word ≤ c.loop-digit.digit-index = omega arith in
    let below : ltb n c.args.lanes ≡ true = lt-ltb n c.args.lanes (omega arith) in
    sym (cond-true (ltb n c.args.lanes) (Some n) None below) ∙ (sym (lane_ends c.args.lanes n c.loop-digit.digit-index word past) ∙ (c.loop-digit.invariant.digits ∙ lane_is c.args.lanes word some few))

pub returns-else-lane-lanes-clause-lane : goal.returns-else-lane-lanes-clause-lane
returns-else-lane-lanes-clause-lane c =
    let word = c.args.word.now in
    let n = c.loop-digit.lane in
    let some : 0 < length word = search rules in
    let few : length word ≤ LANE_DIGITS = omega arith in
    let past : length word ≤ c.loop-digit.digit-index = omega arith in
    let above : ltb n c.args.lanes ≡ false = le-ltb n c.args.lanes (omega arith) in
    sym (cond-false (ltb n c.args.lanes) (Some n) None above) ∙ (sym (lane_ends c.args.lanes n c.loop-digit.digit-index word past) ∙ (c.loop-digit.invariant.digits ∙ lane_is c.args.lanes word some few))
