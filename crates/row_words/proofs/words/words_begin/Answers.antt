use Rattle.std.proofs.Common.{◌≡◌, ◌/◌, ◌+◌, ◌*◌, ℕ, List, length, get_or, sym, ap, arith, zero-add}
use Rattle.std.proofs.lemmas.List.{take_rest}
use mathlib.Core.Bool.{false≢true}
use Rattle.row_words.proofs.Beginnings.{word_other, last_same, last_begins}
use Rattle.row_words.proofs.words.words_begin.Goals as goal

pub returns-then-words-i : goal.returns-then-words-i
returns-then-words-i c = (
  λ h. absurd (false≢true h),
  λ e. let words : List ℕ = c.args.words.now in
      let now : get_or words c.loop-i.i 0 ≡ get_or words (0 + c.loop-i.i) 0 = ap (λ (k : ℕ). get_or words k 0) (sym (zero-add c.loop-i.i)) in
      absurd (word_other words _ 0 c.loop-i.i _ (get_or words c.loop-i.i 0) c.whole_word.result now c.if-words-i.true (omega (arith, c.type_inv.words c.loop-i.i)) (omega (arith, c.whole_word.type_inv)) c.whole_word.ensures (omega (arith, c.loop-i-test.true)) e),
)

pub returns : goal.returns
returns c =
    let words : List ℕ = c.args.words.now in
    let whole : ℕ = length c.args.bytes.now / 8 in
    let now : get_or words whole 0 ≡ get_or words (0 + whole) 0 = ap (λ (k : ℕ). get_or words k 0) (sym (zero-add whole)) in
    let rest = take_rest c.args.bytes.now (8 * whole) in (
      λ h. last_same words c.args.bytes.now _ 0 whole (get_or words whole 0) now (omega arith) rest (λ j l. c.loop-i.invariant j (omega (arith, l, c.loop-i-test.false))) (c.word_begins.ensures.0 h),
      λ e. c.word_begins.ensures.1 (last_begins words c.args.bytes.now _ 0 whole (get_or words whole 0) now (omega arith) rest e),
    )
