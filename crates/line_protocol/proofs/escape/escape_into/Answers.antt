use Rattle.std.proofs.Common.{◌≡◌, ◌++◌, OnOk, sym, subst, ◌∙◌, rules}
use Rattle.line_protocol.proofs.Escapes.{escape_plain}
use Rattle.line_protocol.proofs.escape.escape_into.Goals as goal

pub returns-then-are_plain-clause-ok : goal.returns-then-are_plain-clause-ok
returns-then-are_plain-clause-ok c =
    let bytes = c.args.bytes.now in
    let same = escape_plain bytes (sym c.are_plain.ensures ∙ c.if-are_plain.true) in
    let added : OnOk c.extend_from_slice.result (c.extend_from_slice.new.self.items ≡ c.args.out.now.items ++ bytes) = search rules in
    subst (λ zs. OnOk c.extend_from_slice.result (c.extend_from_slice.new.self.items ≡ c.args.out.now.items ++ zs)) (sym same) added
