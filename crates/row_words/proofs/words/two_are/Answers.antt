use Rattle.std.proofs.Common.{◌<◌, ◌+◌, get_or, arith, eq-eqb, eqb-true}
use Rattle.row_words.proofs.ShortWords.{two_there, two_same}
use Rattle.row_words.proofs.words.two_are.Goals as goal

pub returns : goal.returns
returns c =
    let first : get_or c.args.bytes.now c.args.from 0 < 256 = omega (arith, c.type_inv.bytes c.args.from) in
    let second : get_or c.args.bytes.now (c.args.from + 1) 0 < 256 = omega (arith, c.type_inv.bytes (c.args.from + 1)) in (
      λ e. two_there c.args.word c.args.from c.args.bytes.now first second (eqb-true _ _ e),
      λ h. eq-eqb _ _ (two_same c.args.word c.args.from c.args.bytes.now first second h),
    )
