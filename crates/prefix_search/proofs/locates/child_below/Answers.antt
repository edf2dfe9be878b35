use Rattle.std.proofs.Common.{◌≡◌, ◌≢◌, ℕ, false, sym, ◌∙◌, arith}
use Rattle.std.specs.Prelude.{◌==◌}
use Rattle.std.proofs.lemmas.Bool.Decides.{nat_tests}
use Rattle.prefix_search.proofs.Children.{child_at}
use Rattle.prefix_search.proofs.locates.child_below.Goals as goal

some_bytes : (n : ℕ) → (n == 0) ≡ false → n ≢ 0
some_bytes n h = grind (arith, nat_tests)

pub returns : goal.returns
returns c = λ it says.
    c.greatest_byte.ensures
    ∙ child_at it c.args.item.now c.args.rest.now (some_bytes _ (sym c.is_empty.ensures ∙ c.if-is_empty.false)) (omega (arith, c.type_inv.rest 0)) says
