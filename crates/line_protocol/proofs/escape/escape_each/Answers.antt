use Rattle.std.proofs.Common.{◌≡◌, ◌++◌, ap, ◌∙◌, arith, rules}
use Rattle.std.proofs.lemmas.List.{take_all}
use Rattle.std.proofs.lemmas.List.Elements.{All-from_get_or}
use Rattle.percent_encoding.specs.Iter.{encoded_text}
use Rattle.percent_encoding.specs.Percent.{percent_encode}
use Rattle.percent_encoding.proofs.PercentLemmas.{IsByte}
use Rattle.line_protocol.proofs.Escapes.{cuts, escape_is}
use Rattle.line_protocol.proofs.escape.escape_each.Goals as goal

pub loop-piece-init : goal.loop-piece-init
loop-piece-init c =
    let small = All-from_get_or IsByte c.args.bytes.now 0 (λ i within. omega (arith, c.type_inv.bytes i)) in
    let begun : encoded_text c.into_iter-piece-iterator.result ≡ percent_encode cuts c.args.bytes.now = search rules in
    record {
      text = ap (λ t. c.args.out.now.items ++ t) (begun ∙ escape_is c.args.bytes.now small);
      front = take_all _ c.args.out.now.items (omega arith);
    }
