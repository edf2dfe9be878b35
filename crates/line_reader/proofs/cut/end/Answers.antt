use Rattle.std.proofs.Common.{◌∷◌, [], length, sym, ap, ◌∙◌, subst, arith}
use Rattle.std.proofs.lemmas.Bool.{cond-true, cond-false, lt-ltb, le-ltb}
use Rattle.line_reader.specs.declared.limits.TheConstants.{LONGEST_LINE}
use Rattle.line_reader.specs.Cut.{without_cr}
use Rattle.line_reader.specs.Told.{IsFront}
use Rattle.line_reader.specs.Told.Told.{Read, Long}
use Rattle.line_reader.proofs.Fronts.{tells_over, front_all}
use Rattle.line_reader.proofs.cut.end.Goals as goal

pub returns-then-over-clause-told : goal.returns-then-over-clause-told
returns-then-over-clause-told c part front =
    ap (λ t. t ∷ []) (sym (tells_over _ part (subst (λ o. IsFront c.args.line.now.items o part) c.if-over.true front)))

pub returns-then-len-gt-LONGEST_LINE-clause-told : goal.returns-then-len-gt-LONGEST_LINE-clause-told
returns-then-len-gt-LONGEST_LINE-clause-told c part front =
    let all = front_all _ part (subst (λ o. IsFront c.args.line.now.items o part) c.if-over.false front) in
    let is_line = c.drop_cr.ensures.items ∙ ap without_cr all in
    let long = lt-ltb LONGEST_LINE (length (without_cr part)) (omega (arith, ap length is_line)) in
    ap (λ t. t ∷ []) (sym (cond-true _ Long (Read (without_cr part)) long))

pub returns-else-len-gt-LONGEST_LINE-clause-told : goal.returns-else-len-gt-LONGEST_LINE-clause-told
returns-else-len-gt-LONGEST_LINE-clause-told c part front =
    let all = front_all _ part (subst (λ o. IsFront c.args.line.now.items o part) c.if-over.false front) in
    let is_line = c.drop_cr.ensures.items ∙ ap without_cr all in
    let short = le-ltb LONGEST_LINE (length (without_cr part)) (omega (arith, ap length is_line)) in
    ap (λ l. Read l ∷ []) is_line ∙ ap (λ t. t ∷ []) (sym (cond-false _ Long (Read (without_cr part)) short))
