use Rattle.std.proofs.Common.{◌≡◌, ◌||◌, ◌∙◌, eqb, nat_lt, take, drop, sym, ap, rules}
use Rattle.std.specs.List.{list_any}
use Rattle.line_protocol.specs.Escape.{is_sought}
use Rattle.line_protocol.proofs.Sought.{escaped_any}
use Rattle.line_protocol.proofs.scan.in_part.Goals as goal

pub returns-in-Escaped : goal.returns-in-Escaped
returns-in-Escaped g c =
    let part = take g.row.N (drop c.args.from c.args.bytes.now) in
    let below : c.has_lane_below.result ≡ list_any (λ b. nat_lt b 33) part = search rules in
    let above : c.has_lane_above.result ≡ list_any (λ b. nat_lt 126 b) part = search rules in
    let percent : c.has_lane-in-Escaped.result ≡ list_any (λ b. eqb b 37) part = search rules in
    let star : c.has_lane-in-Escaped-2.result ≡ list_any (λ b. eqb b 42) part = search rules in
    (λ i. ((below i || above i) || percent i) || star i)
    ∙ sym (escaped_any part)
    ∙ ap (λ s. list_any (is_sought s) part) (sym c.in-Escaped.is)
