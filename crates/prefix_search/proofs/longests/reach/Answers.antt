use Rattle.std.proofs.Common.{◌≡◌, ℕ, List, length, take, get_or, arith, sym, ap, ◌∙◌}
use Rattle.std.specs.Prelude.{min}
use Rattle.key_bytes.specs.Fnv.{fnv_start}
use Rattle.key_bytes.proofs.Hashes.{prefix_hash-nil}
use Rattle.anchor_rules.specs.Items.{longest_anchor}
use Rattle.anchor_rules.proofs.ItemParts.{item_closed}
use Rattle.row_words.specs.declared.shape.Shape.{Shape}
use Rattle.row_words.specs.Decode.{item_at}
use Rattle.prefix_search.specs.Search.{length_digits}
use Rattle.prefix_search.proofs.Children.{none_behind}
use Rattle.prefix_search.proofs.Digits.{left_less, below_digits}
use Rattle.prefix_search.proofs.Hashing.{hash_on}
use Rattle.prefix_search.proofs.Tables.{longest_is, none_past, root_used, root_tells}
use Rattle.prefix_search.proofs.longests.reach.Goals as goal

pub place_by_hash-requires-clause-hash : goal.place_by_hash-requires-clause-hash
place_by_hash-requires-clause-hash g c =
    rw c.loop-low.invariant.shape
    (hash_on _ c.loop-low.hash _ c.loop-low.low _ c.args.key.now (omega arith) c.loop-low.invariant.hash c.extend-further.ensures)

pub loop-low-init : goal.loop-low-init
loop-low-init g c =
    record {
      words = c.longest-most.ensures.words;
      counted = omega (arith, c.longest-most.ensures.read);
      shape = c.longest-most.ensures.shape;
      stays = c.longest-most.ensures.stays;
      low_high = omega arith;
      high_key = omega (arith, c.min-high.ensures);
      hash = c.start-hash.ensures ∙ (ap fnv_start (c.salt.ensures ∙ ap (λ (k : Shape). k.salt) c.longest-most.ensures.shape) ∙ sym (prefix_hash-nil _));
      used = (root_used _ _ c.requires.0 c.requires.1).0;
      known = λ A s. root_tells _ _ A s;
      longest = λ A s m lt le. none_past A c.args.key.now m (omega (arith, c.min-high.ensures, c.longest-most.ensures.value, longest_is _ _ A s)) le;
      cost = λ A s most fits. record {
        digits = length_digits A c.args.key.now;
        narrow =
            let high : c.min-high.result ≡ min (length c.args.key.now) (longest_anchor A) = c.min-high.ensures ∙ ap (min (length c.args.key.now)) (c.longest-most.ensures.value ∙ longest_is _ _ A s) in
            omega (arith, high, below_digits (min (length c.args.key.now) (longest_anchor A)));
        paid = omega arith;
      };
    }

pub loop-low-preserved-then-not-goes_on : goal.loop-low-preserved-then-not-goes_on
loop-low-preserved-then-not-goes_on g c =
    let v = rw (c.loop-low.invariant.shape, c.loop-low.invariant.words) at c.in-Some.ensures.value in
    let cost = rw (c.loop-low.invariant.shape, c.loop-low.invariant.words) at c.place_by_hash.ensures.cost in
    record {
      words = c.place_by_hash.ensures.words ∙ c.loop-low.invariant.words;
      counted = omega (arith, c.place_by_hash.ensures.counted, c.loop-low.invariant.counted);
      shape = c.place_by_hash.ensures.shape ∙ c.loop-low.invariant.shape;
      stays = g.met.R.Rows.stays_trans _ _ _ c.loop-low.invariant.stays c.place_by_hash.ensures.stays;
      low_high = omega arith;
      high_key = omega arith;
      hash = hash_on _ c.loop-low.hash _ c.loop-low.low _ c.args.key.now (omega arith) c.loop-low.invariant.hash c.extend-further.ensures;
      used = (v c.requires.0 c.requires.1).0;
      known = λ A s. (v A s).2;
      longest = λ A s m lt le.
          let w = v A s in
          let shape = c.loop-low.invariant.shape in
          let words = c.loop-low.invariant.words in
          let same = ap (λ (z : Shape × List ℕ). get_or (item_at z.0 z.1 c.in-Some.place.at).bits c.word_of_next.result 0) (λ i. (shape i, words i)) in
          none_behind A c.args.key.now c.middle_of-middle.result m w.2.0 c.goes_on.result w.2.1 (c.goes_on.ensures w.2.0 _ w.2.2 (w.1 ∙ same ∙ ap (λ (n : ℕ). get_or (item_at (g.R.Rows.shape c.args.rows.now) (g.R.Rows.words c.args.rows.now) c.in-Some.place.at).bits n 0) c.word_of_next.ensures.next)) c.if-not-goes_on.true lt le;
      cost = λ A s most fits. left_less _ _ _ _ _ _ (c.loop-low.invariant.cost A s most fits) (omega arith) (λ n lt. let p = c.middle_of-middle.ensures.narrow_above n lt in omega arith) (cost A s most fits);
    }

pub loop-low-preserved-else-not-goes_on : goal.loop-low-preserved-else-not-goes_on
loop-low-preserved-else-not-goes_on g c =
    let v = rw (c.loop-low.invariant.shape, c.loop-low.invariant.words) at c.in-Some.ensures.value in
    let cost = rw (c.loop-low.invariant.shape, c.loop-low.invariant.words) at c.place_by_hash.ensures.cost in
    record {
      words = c.place_by_hash.ensures.words ∙ c.loop-low.invariant.words;
      counted = omega (arith, c.loop-low.invariant.counted, c.place_by_hash.ensures.counted);
      shape = c.place_by_hash.ensures.shape ∙ c.loop-low.invariant.shape;
      stays = g.met.R.Rows.stays_trans _ _ _ c.loop-low.invariant.stays c.place_by_hash.ensures.stays;
      low_high = omega arith;
      high_key = omega arith;
      hash = hash_on _ c.loop-low.hash _ c.loop-low.low _ c.args.key.now (omega arith) c.loop-low.invariant.hash c.extend-further.ensures;
      used = (v c.requires.0 c.requires.1).0;
      known = λ A s. (v A s).2;
      longest = c.loop-low.invariant.longest;
      cost = λ A s most fits. left_less _ _ _ _ _ _ (c.loop-low.invariant.cost A s most fits) (omega arith) c.middle_of-middle.ensures.narrow_above (cost A s most fits);
    }

pub loop-low-preserved : goal.loop-low-preserved
loop-low-preserved g c =
    let v = rw (c.loop-low.invariant.shape, c.loop-low.invariant.words) at c.in-None.ensures.value in
    let cost = rw (c.loop-low.invariant.shape, c.loop-low.invariant.words) at c.place_by_hash.ensures.cost in
    record {
      words = c.place_by_hash.ensures.words ∙ c.loop-low.invariant.words;
      counted = (let read = c.place_by_hash.ensures.counted in omega (arith, read, c.loop-low.invariant.counted));
      shape = c.place_by_hash.ensures.shape ∙ c.loop-low.invariant.shape;
      stays = g.met.R.Rows.stays_trans _ _ _ c.loop-low.invariant.stays c.place_by_hash.ensures.stays;
      low_high = omega arith;
      high_key = omega arith;
      hash = c.loop-low.invariant.hash;
      used = c.loop-low.invariant.used;
      known = c.loop-low.invariant.known;
      longest = λ A s m lt le. item_closed A c.args.key.now _ m (omega arith) (v A s);
      cost = λ A s most fits. left_less _ _ _ _ _ _ (c.loop-low.invariant.cost A s most fits) (omega arith) c.middle_of-middle.ensures.narrow_below (cost A s most fits);
    }

pub returns-clause-longest : goal.returns-clause-longest
returns-clause-longest g c = λ A s.
    let known = c.loop-low.invariant.known A s in
    (known.0, record { within = omega arith; known = known.1; none_longer = λ m lt le. c.loop-low.invariant.longest A s m (omega arith) le }, known.2)
