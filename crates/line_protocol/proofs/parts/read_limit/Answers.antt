use Rattle.std.proofs.Common.{◌≡◌, ◌<◌, ◌≤◌, ◌^◌, false, true, leb, get_or, length, Ok, Err, sym, ◌∙◌, arith, lit<, rules}
use Rattle.std.specs.Char.{is_ascii_digit}
use Rattle.std.proofs.lemmas.Bool.{cond-true, cond-false, le-leb, lt-leb}
use Rattle.std.proofs.Math.Nat.{pow-le-pow_right}
use Rattle.line_protocol.specs.declared.fault.Fault.TheVariants.{Limit}
use Rattle.line_protocol.specs.declared.fault.RequestFault.TheVariants.{Fault}
use Rattle.line_protocol.specs.declared.parts.TheConstants.{LIMIT_DIGITS, MOST_SCANNED}
use Rattle.line_protocol.proofs.Limits.{limit_is, limit_stops, limit_ends}
use Rattle.line_protocol.proofs.parts.read_limit.Goals as goal

pub overflow_mul-limit : goal.overflow_mul-limit
overflow_mul-limit c =
    let i = c.loop-digit.digit-index in
    let few : i ≤ 6 = omega arith in
    let bound : 10 ^ i ≤ 10 ^ 6 = pow-le-pow_right {n = 10} (lit< tt) {i = i} {j = 6} few in
    omega (arith, c.loop-digit.invariant.below)

pub overflow_add-limit : goal.overflow_add-limit
overflow_add-limit c =
    let i = c.loop-digit.digit-index in
    let few : i ≤ 6 = omega arith in
    let bound : 10 ^ i ≤ 10 ^ 6 = pow-le-pow_right {n = 10} (lit< tt) {i = i} {j = 6} few in
    omega (arith, c.loop-digit.invariant.below)

pub returns-then-not-is_ascii_digit-clause-limit : goal.returns-then-not-is_ascii_digit-clause-limit
returns-then-not-is_ascii_digit-clause-limit c =
    let word = c.args.word.now in
    let i = c.loop-digit.digit-index in
    let within : i < length word = omega arith in
    let few : length word ≤ LIMIT_DIGITS = omega arith in
    let other : is_ascii_digit (get_or word i 0) ≡ false = sym c.is_ascii_digit.ensures.value ∙ c.if-not-is_ascii_digit.true in
    sym (limit_stops c.loop-digit.limit i word within other) ∙ c.loop-digit.invariant.digits ∙ limit_is word (omega arith) few

pub returns-then-limit-gt-MOST_SCANNED-clause-limit : goal.returns-then-limit-gt-MOST_SCANNED-clause-limit
returns-then-limit-gt-MOST_SCANNED-clause-limit c =
    let word = c.args.word.now in
    let n = c.loop-digit.limit in
    let some : 0 < length word = search rules in
    let few : length word ≤ LIMIT_DIGITS = omega arith in
    let past : length word ≤ c.loop-digit.digit-index = omega arith in
    let large : leb n MOST_SCANNED ≡ false = lt-leb n MOST_SCANNED (omega arith) in
    sym (cond-false (leb n MOST_SCANNED) (Ok n) (Err (Fault Limit)) large) ∙ sym (limit_ends n c.loop-digit.digit-index word past) ∙ c.loop-digit.invariant.digits ∙ limit_is word some few

pub returns-clause-limit : goal.returns-clause-limit
returns-clause-limit c =
    let word = c.args.word.now in
    let n = c.loop-digit.limit in
    let some : 0 < length word = search rules in
    let few : length word ≤ LIMIT_DIGITS = omega arith in
    let past : length word ≤ c.loop-digit.digit-index = omega arith in
    let small : leb n MOST_SCANNED ≡ true = le-leb n MOST_SCANNED (omega arith) in
    sym (cond-true (leb n MOST_SCANNED) (Ok n) (Err (Fault Limit)) small) ∙ sym (limit_ends n c.loop-digit.digit-index word past) ∙ c.loop-digit.invariant.digits ∙ limit_is word some few
