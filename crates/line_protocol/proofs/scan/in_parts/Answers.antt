use Rattle.std.proofs.Common.{◌-◌, ◌∙◌, length, sym, arith}
use Rattle.line_protocol.specs.Escape.{is_sought}
use Rattle.line_protocol.proofs.Sought.{any_found, any_on, any_last}
use Rattle.line_protocol.proofs.scan.in_parts.Goals as goal

pub returns-then-in_part : goal.returns-then-in_part
returns-then-in_part g c =
    sym (any_found (is_sought c.args.sought) c.args.bytes.now c.parts.at g.row.N (sym c.in_part.ensures ∙ c.if-in_part.true))

pub parts-preserved : goal.parts-preserved
parts-preserved g c =
    let test = c.parts-test.true in
    let long = c.requires.long in
    record {
      room = omega (arith, test, long);
      none = any_on (is_sought c.args.sought) c.args.bytes.now c.parts.at g.row.N c.parts.invariant.none (sym c.in_part.ensures ∙ c.if-in_part.false);
    }

pub returns : goal.returns
returns g c =
    let test = c.parts-test.false in
    let long = c.requires.long in
    c.in_part-2.ensures
    ∙ any_last (is_sought c.args.sought) c.args.bytes.now c.parts.at (length c.args.bytes.now - g.row.N) g.row.N c.parts.invariant.none (omega (arith, test)) (omega (arith, long))
