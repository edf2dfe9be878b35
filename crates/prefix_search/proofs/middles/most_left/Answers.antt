use Rattle.std.proofs.Common.{◌≡◌, ◌+◌, ◌-◌, ◌*◌, ◌%◌, ◌^◌, ℕ, suc, arith}
use Rattle.std.proofs.Math.Nat.{pow-suc}
use Rattle.std.proofs.lemmas.Nat.{leading_top, pow_below, pow_pos}
use Rattle.prefix_search.proofs.Digits.{top_within}
use Rattle.prefix_search.proofs.middles.most_left.Goals as goal

-- the power of the top digit, from the zeros above it
top_power : (zeros j : ℕ) → zeros + suc j ≡ 64 → 1 * 2 ^ (63 - zeros) % 2 ^ 64 ≡ 2 ^ j
top_power zeros j e =
    let is : 63 - zeros ≡ j = omega arith in
    let low = pow_below j 64 (omega arith) in
    rw is (omega (arith, low))

pub returns : goal.returns
returns c =
    let top = leading_top 64 c.args.width (omega arith) (omega arith) in
    let is = top_power _ top.0 top.1 in
    let some = pow_pos top.0 in
    record {
      less = omega (arith, is, some, top.2);
      half = omega (arith, is, some, top.3, pow-suc 2 top.0);
      narrow = λ n lt. let within = top_within top.0 n c.args.width top.2 lt in omega (arith, is, some, within);
    }
