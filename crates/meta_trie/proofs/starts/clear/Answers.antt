use Rattle.std.proofs.Common.{◌≡◌, ◌≢◌, ◌<◌, ◌≤◌, ◌+◌, ℕ, List, get_or, length, arith, ap, ◌∙◌, inl, inr, get_or-set_other, get_or-set_same, below_more}
use Rattle.std.proofs.lemmas.List.{get_or_past}
use Rattle.std.proofs.lemmas.Bool.{cases_order}
use Rattle.std.proofs.Math.ListN.{set}
use Rattle.row_words.specs.Layout.{word_count}
use Rattle.meta_trie.proofs.starts.clear.Goals as goal

zero_more : (ws : List ℕ) (i : ℕ) → i < length ws → ((x : ℕ) → x < i → get_or ws x 0 ≡ 0) → (x : ℕ) → x < i + 1 → get_or (set ws i 0) x 0 ≡ 0
zero_more ws i l z = below_more (λ (x : ℕ). get_or (set ws i 0) x 0 ≡ 0) i (λ x h. let ne : x ≢ i = omega arith in get_or-set_other ws i x 0 0 ne ∙ z x h) (get_or-set_same ws i 0 0 l)

pub loop-i-preserved : goal.loop-i-preserved
loop-i-preserved g c =
    let many : length (g.R.Rows.words c.loop-i.rows) ≡ word_count (g.R.Rows.shape c.args.rows.now) = g.met.R.Rows.sized c.loop-i.rows ∙ ap word_count c.loop-i.invariant.shape in
    let top : c.word_count-i-end.result ≡ word_count (g.R.Rows.shape c.args.rows.now) = c.word_count-i-end.ensures ∙ ap word_count c.layout.ensures in
    record {
      zero = rw c.set_word.ensures.words (zero_more (g.R.Rows.words c.loop-i.rows) c.loop-i.i (omega (arith, many, top, c.loop-i-test.true)) c.loop-i.invariant.zero);
      shape = c.set_word.ensures.shape ∙ c.loop-i.invariant.shape;
      stays = g.met.R.Rows.stays_trans _ _ _ c.loop-i.invariant.stays c.set_word.ensures.stays;
    }

all_zero : (ws : List ℕ) (n : ℕ) → length ws ≤ n → ((x : ℕ) → x < n → get_or ws x 0 ≡ 0) → (x : ℕ) → get_or ws x 0 ≡ 0
all_zero ws n l z x = elim (cases_order x n) [
  | inl same ↦ get_or_past ws x 0 (omega (arith, same, l))
  | inr other ↦ elim other [ inl below ↦ z x below | inr past ↦ get_or_past ws x 0 (omega (arith, past, l)) ]
]

pub returns-clause-words : goal.returns-clause-words
returns-clause-words g c =
    let many : length (g.R.Rows.words c.loop-i.rows) ≡ word_count (g.R.Rows.shape c.args.rows.now) = g.met.R.Rows.sized c.loop-i.rows ∙ ap word_count c.loop-i.invariant.shape in
    let top : c.word_count-i-end.result ≡ word_count (g.R.Rows.shape c.args.rows.now) = c.word_count-i-end.ensures ∙ ap word_count c.layout.ensures in
    all_zero (g.R.Rows.words c.loop-i.rows) c.loop-i.i (omega (arith, many, top, c.loop-i-test.false)) c.loop-i.invariant.zero
