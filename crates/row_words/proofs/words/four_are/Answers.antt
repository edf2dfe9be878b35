use Rattle.std.proofs.Common.{eq-eqb, eqb-true}
use Rattle.row_words.proofs.ShortWords.{four_there, four_same}
use Rattle.row_words.proofs.words.four_are.Goals as goal

pub returns : goal.returns
returns c = (
  λ e. four_there c.args.word c.args.from c.whole_four.result c.args.bytes.now (eqb-true _ _ e) c.whole_four.ensures.first c.whole_four.ensures.second c.whole_four.ensures.third c.whole_four.ensures.fourth,
  λ h. eq-eqb _ _ (four_same c.args.word c.args.from c.whole_four.result c.args.bytes.now c.whole_four.type_inv c.whole_four.ensures.first c.whole_four.ensures.second c.whole_four.ensures.third c.whole_four.ensures.fourth h),
)
