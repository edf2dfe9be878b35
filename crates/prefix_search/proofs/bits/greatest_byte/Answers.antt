use Rattle.std.proofs.Common.{◌≡◌, ◌+◌, ◌-◌, ◌*◌, ℕ, sym, ap, ◌∙◌, arith}
use Rattle.anchor_rules.specs.Items.{greatest_below}
use Rattle.meta_trie.specs.Trie.{bit_of}
use Rattle.prefix_search.proofs.TopBits.{word_found, word_none, greatest_lower}
use Rattle.prefix_search.proofs.bits.greatest_byte.Goals as goal

pub overflow_cast-result-in-Some : goal.overflow_cast-result-in-Some
overflow_cast-result-in-Some c = omega (arith, greatest_lower _ c.loop-bit.end c.in-Some.bit (sym c.in-Some.ensures), c.loop-bit.invariant.end, c.loop-bit.invariant.word)

pub overflow_add-result : goal.overflow_add-result
overflow_add-result c = omega (arith, greatest_lower _ c.loop-bit.end c.in-Some.bit (sym c.in-Some.ensures), c.loop-bit.invariant.end, c.loop-bit.invariant.word)

pub returns-in-Some : goal.returns-in-Some
returns-in-Some c = sym (c.loop-bit.invariant.same ∙ word_found c.args.bits.now c.loop-bit.word c.loop-bit.end c.in-Some.bit c.loop-bit.invariant.end (sym c.in-Some.ensures))

pub returns-then-word-eq0 : goal.returns-then-word-eq0
returns-then-word-eq0 c =
    sym (c.loop-bit.invariant.same
    ∙ (word_none c.args.bits.now c.loop-bit.word c.loop-bit.end c.loop-bit.invariant.end (sym c.in-None.ensures)
    ∙ ap (λ (w : ℕ). greatest_below (bit_of c.args.bits.now) (64 * w)) c.if-word-eq0.true))

pub loop-bit-preserved : goal.loop-bit-preserved
loop-bit-preserved c =
    let more : 64 * c.loop-bit.word ≡ 64 * (c.loop-bit.word - 1) + 64 = omega arith in
    record {
      word = omega arith;
      end = omega arith;
      same = c.loop-bit.invariant.same ∙ (word_none c.args.bits.now c.loop-bit.word c.loop-bit.end c.loop-bit.invariant.end (sym c.in-None.ensures) ∙ ap (greatest_below (bit_of c.args.bits.now)) more);
    }
