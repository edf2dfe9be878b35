use Rattle.std.proofs.Common.{ap, arith}
use Rattle.generated_lines.proofs.Giving.{made_ready}
use Rattle.generated_lines.proofs.generated.Generated.make_ready.Goals as goal

-- the line at hand was given, so what is left begins with the next one
pub returns-then-self-clause-told : goal.returns-then-self-clause-told
returns-then-self-clause-told c =
    let s = c.args.self.now in
    ap (λ left. record { given = s.given.bytes; left = left; ended = s.ended })
    (made_ready s.line.items c.set_line.new.line.items s.at s.number c.next_number-self.result s.made s.count (omega (arith, c.if-self-len.true, c.len.ensures)) (omega (arith, c.if-self.true)) c.next_number-self.ensures c.set_line.ensures.items)
