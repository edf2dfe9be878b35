use Rattle.std.proofs.Common.{◌≡◌, ◌<◌, ◌+◌, ◌-◌, ◌*◌, ◌++◌, ℕ, List, length, get_or, take, drop, arith, sym, ap, ◌∙◌}
use Rattle.row_words.specs.Bytes.{byte_at, bytes_from}
use Rattle.row_words.proofs.Packed.{length-bytes, bytes_get, word_unpacked, length_replaced, all_unpacked}
use Rattle.row_words.proofs.anchor_words.AnchorWords.unpack.Goals as goal

pub loop-i-preserved : goal.loop-i-preserved
loop-i-preserved c =
    let ws = c.self.inside.words in
    let bs = c.args.self.now in
    let i = c.loop-i.i in
    let long : length bs ≡ c.self.inside.len = sym (ap length c.self.view_is) ∙ length-bytes ws 0 c.self.inside.len in
    let byte : (j : ℕ) → j < length bs → byte_at ws 0 j ≡ get_or bs j 0 = λ j l. bytes_get ws 0 c.self.inside.len bs j c.self.view_is (omega (arith, long, l)) in
    let here = c.loop-i-test.true in
    record {
      many = length_replaced c.loop-i.into c.copy_from_slice.new.self (8 * i) (8 * i + 8 - 8 * i) c.copy_from_slice.ensures.len ∙ c.loop-i.invariant.many;
      same = λ j l m.
          ap (λ (word : List ℕ). get_or (take (8 * i) c.loop-i.into ++ (word ++ drop (8 * i + 8 - 8 * i) (drop (8 * i) c.loop-i.into))) j 0) (c.copy_from_slice.ensures.after ∙ c.to_le_bytes.ensures)
          ∙ (word_unpacked ws c.loop-i.into (drop (8 * i + 8 - 8 * i) (drop (8 * i) c.loop-i.into)) i (omega (arith, here, c.self.invariant, c.loop-i.invariant.many)) (λ k b. c.loop-i.invariant.same k b (omega (arith, b, here, long)) ∙ sym (byte k (omega (arith, b, here, long)))) j l
          ∙ byte j m);
    }

pub returns-clause-bytes : goal.returns-clause-bytes
returns-clause-bytes c =
    let ws = c.self.inside.words in
    let bs = c.args.self.now in
    let long : length bs ≡ c.self.inside.len = sym (ap length c.self.view_is) ∙ length-bytes ws 0 c.self.inside.len in
    let byte : (j : ℕ) → j < length bs → byte_at ws 0 j ≡ get_or bs j 0 = λ j l. bytes_get ws 0 c.self.inside.len bs j c.self.view_is (omega (arith, long, l)) in
    all_unpacked ws c.loop-i.into (length bs) (omega (arith, long, c.self.invariant, c.loop-i.invariant.many)) (λ j l. c.loop-i.invariant.same j (omega (arith, long, l, c.loop-i-test.false)) l ∙ sym (byte j l))
    ∙ (ap (bytes_from ws 0) long ∙ c.self.view_is)

pub returns-clause-fits : goal.returns-clause-fits
returns-clause-fits c = omega (arith, sym (ap length c.self.view_is) ∙ length-bytes c.self.inside.words 0 c.self.inside.len, c.self.invariant)
