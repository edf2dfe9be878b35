use Rattle.std.proofs.Common.{◌≡◌, ◌<◌, ◌≤◌, length, sym, subst, arith, rules}
use Rattle.std.specs.Cow.{cow_slice_items}
use Rattle.std.proofs.lemmas.List.Elements.{All-from_get_or, recursion_from_All}
use Rattle.percent_encoding.proofs.PercentLemmas.{IsByte}
use Rattle.key_bytes.specs.Lengths.{AreBytes}
use Rattle.key_bytes.specs.declared.limits.TheConstants.{LONGEST_KEY}
use Rattle.line_protocol.specs.Escape.{unescape}
use Rattle.line_protocol.proofs.Escapes.{unescape_bytes}
use Rattle.line_protocol.proofs.parts.read_key.Goals as goal

pub of-requires : goal.of-requires
of-requires c =
    let word = c.args.word.now in
    let bytes = cow_slice_items c.in_ok-bytes.bytes in
    let small = All-from_get_or IsByte word 0 (λ i within. omega (arith, c.type_inv.word i)) in
    let is : bytes ≡ unescape word = search rules in
    let some : 0 < length bytes = search rules in
    let short : length bytes ≤ LONGEST_KEY = search rules in
    (some, omega (arith, short), subst AreBytes (sym is) (recursion_from_All IsByte (unescape word) (unescape_bytes word small)))
