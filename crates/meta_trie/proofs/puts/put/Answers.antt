use Rattle.std.proofs.Common.{◌≡◌, ◌≢◌, ◌<◌, ◌+◌, ℕ, List, get_or, length, arith, ap, ◌∙◌, get_or-set_other, get_or-set_same, below_more, refl}
use Rattle.std.proofs.Math.ListN.{set}
use Rattle.row_words.specs.Layout.{word_count}
use Rattle.meta_trie.proofs.puts.put.Goals as goal

pub set_word-requires : goal.set_word-requires
set_word-requires g c = rw c.loop-j.invariant.shape (omega (arith, c.requires, c.loop-j-test.true))

inside_more : (ws vs : List ℕ) (from j v : ℕ) → from + j < length ws → v ≡ get_or vs j 0 → ((i : ℕ) → i < j → get_or ws (from + i) 0 ≡ get_or vs i 0) → (i : ℕ) → i < j + 1 → get_or (set ws (from + j) v) (from + i) 0 ≡ get_or vs i 0
inside_more ws vs from j v l is below = below_more (λ (i : ℕ). get_or (set ws (from + j) v) (from + i) 0 ≡ get_or vs i 0) j
    (λ i h. let ne : from + i ≢ from + j = omega arith in get_or-set_other ws (from + j) (from + i) v 0 ne ∙ below i h)
    (get_or-set_same ws (from + j) v 0 l ∙ is)

pub loop-j-preserved : goal.loop-j-preserved
loop-j-preserved g c =
    let n : length (g.R.Rows.words c.loop-j.rows) ≡ word_count (g.R.Rows.shape c.args.rows.now) = g.met.R.Rows.sized c.loop-j.rows ∙ ap word_count c.loop-j.invariant.shape in
    let at : c.args.from + c.loop-j.j < length (g.R.Rows.words c.loop-j.rows) = omega (arith, n, c.requires, c.loop-j-test.true) in
    record {
      inside = rw c.set_word.ensures.words (inside_more (g.R.Rows.words c.loop-j.rows) c.args.values.now c.args.from c.loop-j.j _ at refl c.loop-j.invariant.inside);
      before = λ x h. let ne : x ≢ c.args.from + c.loop-j.j = omega arith in ap (λ (ws : List ℕ). get_or ws x 0) c.set_word.ensures.words ∙ (get_or-set_other (g.R.Rows.words c.loop-j.rows) (c.args.from + c.loop-j.j) x _ 0 ne ∙ c.loop-j.invariant.before x h);
      behind = λ x h. let ne : x ≢ c.args.from + c.loop-j.j = omega arith in ap (λ (ws : List ℕ). get_or ws x 0) c.set_word.ensures.words ∙ (get_or-set_other (g.R.Rows.words c.loop-j.rows) (c.args.from + c.loop-j.j) x _ 0 ne ∙ c.loop-j.invariant.behind x (omega arith));
      shape = c.set_word.ensures.shape ∙ c.loop-j.invariant.shape;
      stays = g.met.R.Rows.stays_trans _ _ _ c.loop-j.invariant.stays c.set_word.ensures.stays;
    }
