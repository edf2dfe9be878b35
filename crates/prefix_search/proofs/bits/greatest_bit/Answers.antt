use Rattle.std.proofs.Common.{◌<◌, ◌≤◌, ◌^◌, ℕ, suc, Some, sym, ap, ◌∙◌, subst, arith}
use Rattle.std.proofs.lemmas.Nat.{leading_top}
use Rattle.prefix_search.proofs.TopBits.{no_bit, top_bit}
use Rattle.prefix_search.proofs.bits.greatest_bit.Goals as goal

pub returns-then-low-eq0 : goal.returns-then-low-eq0
returns-then-low-eq0 c = sym (no_bit c.args.word c.args.below (sym c.low_bits-low.ensures ∙ c.if-low-eq0.true))

pub returns-else-low-eq0 : goal.returns-else-low-eq0
returns-else-low-eq0 c =
    let low : ℕ = c.low_bits-low.result in
    let top = leading_top 64 low (omega arith) (omega (arith, c.low_bits-low.type_inv)) in
    let is = c.low_bits-low.ensures in
    ap (λ (j : ℕ). Some j) (omega arith) ∙ sym (top_bit c.args.word c.args.below top.0 (subst (λ (n : ℕ). 2 ^ top.0 ≤ n) is top.2) (subst (λ (n : ℕ). n < 2 ^ suc top.0) is top.3))
