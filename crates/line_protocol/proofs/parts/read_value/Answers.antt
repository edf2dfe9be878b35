use Rattle.std.proofs.Common.{◌≡◌, ◌≤◌, length, sym, subst, arith, rules}
use Rattle.std.proofs.lemmas.List.Elements.{All-from_get_or, recursion_from_All}
use Rattle.percent_encoding.proofs.PercentLemmas.{IsByte}
use Rattle.key_bytes.specs.Lengths.{AreBytes}
use Rattle.key_bytes.specs.declared.limits.TheConstants.{LONGEST_VALUE}
use Rattle.line_protocol.specs.Escape.{unescape}
use Rattle.line_protocol.proofs.Escapes.{unescape_bytes}
use Rattle.line_protocol.proofs.parts.read_value.Goals as goal

pub returns-clause-value : goal.returns-clause-value
returns-clause-value c =
    let word = c.args.word.now in
    let small = All-from_get_or IsByte word 0 (λ i within. omega (arith, c.type_inv.word i)) in
    let is : c.of.result ≡ unescape word = search rules in
    let short : length c.of.result ≤ LONGEST_VALUE = search rules in
    (short, subst AreBytes (sym is) (recursion_from_All IsByte (unescape word) (unescape_bytes word small)))
